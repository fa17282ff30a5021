-- Find and view: each way out.
-- Assumes nothing.
use Prim.Native.Nat.{ℕ, ◌≤◌, ◌<◌}
use mathlib.Core.Path.{◌≡◌, refl, sym, ◌∙◌, subst}
use mathlib.Core.Bool.{Bool, true, false}
use mathlib.Core.List.{[], ◌∷◌}
use mathlib.Core.Option.{none, some}
use native.Mathlib.Omega.{arith}
use lib.ListN.{length, get_or}
use borrow.Author.Tests.{ne_eqb}
use Rattle.output.specs.Answers.{answer}
use Rattle.std.specs.Prelude.{Result, Ok, Err, is_err}
use Rattle.output.specs.Refusals.{number, number_of}
use Rattle.output.specs.declared.refusals.Refusal.{Refusal}
use Rattle.output.proofs.Answering.{number_some, err_none}
use Rattle.model.specs.Sets.{Bytes}
use Rattle.model.specs.Fields.{first, prefix_of, asked_field}
use Rattle.model.specs.Package.{no_item, State, Item, item_at}
use Rattle.model.specs.Calls.{Numbered, Looks, Find, View, refused, asked_refusal, look}
use Rattle.names.proofs.Lengths.{part_name_size}
use Rattle.model.proofs.ItemNames.{asked_prefix}
use Rattle.model.proofs.Numbers.{numbered, zero_numbered, asked_field_numbered}
use Rattle.store.specs.Layout.{count_of}
use Rattle.store.specs.Rows.{row_at, field_of}
use Rattle.store.specs.Packages.{Sound}
use Rattle.contract.specs.Answers.{of_view}
use Rattle.contract.specs.Holds.{Holds}
use Rattle.contract.specs.Ran.{Ran}
use Rattle.contract.specs.Opening.{turned_number, Open}
use Rattle.contract.proofs.Opening.{turned_away_lem, let_in}
use Rattle.contract.proofs.Rans.{looked}
use Rattle.contract.proofs.ItemRows.{item_bytes}
use Rattle.items.specs.Wants.{Located}

-- THE ANSWERS
asked_first : (S : State) (s : Bytes) (k : ℕ) → asked_field s ≡ k → (k ≡ 0 → ⊥) → asked_refusal S s ≡ k
unfolding asked_refusal first
asked_first S s k e z = rw (e, ne_eqb k 0 z)

asked_missing : (S : State) (s : Bytes) → asked_field s ≡ 0 → item_at s S.items ≡ none → asked_refusal S s ≡ 13
unfolding asked_refusal first
asked_missing S s e z = rw (e, z)

asked_there : (S : State) (s : Bytes) (i : Item) → asked_field s ≡ 0 → item_at s S.items ≡ some i → asked_refusal S s ≡ 0
unfolding asked_refusal first
asked_there S s i e z = rw (e, z)

find_no : (S : State) (s : Bytes) (k : ℕ) → asked_refusal S s ≡ k → (k ≡ 0 → ⊥) → refused k ≡ look S (Find s)
unfolding look
find_no S s k e z = rw (e, ne_eqb k 0 z)

find_yes : (S : State) (s : Bytes) (i : Item) (f : Bytes) → asked_refusal S s ≡ 0 → item_at s S.items ≡ some i → f ≡ i.bytes → answer 0 (length f ∷ []) [] ≡ look S (Find s)
unfolding look
find_yes S s i f e z g = rw (e, z, g)

view_no : (S : State) (s : Bytes) (k : ℕ) → asked_refusal S s ≡ k → (k ≡ 0 → ⊥) → of_view [] ≡ look S (View s)
unfolding look
view_no S s k e z = rw (e, ne_eqb k 0 z)

view_yes : (S : State) (s : Bytes) (i : Item) (f : Bytes) → asked_refusal S s ≡ 0 → item_at s S.items ≡ some i → f ≡ i.bytes → of_view f ≡ look S (View s)
unfolding look
view_yes S s i f e z g = rw (e, z, g)

pub asked_few : (s : Bytes) → asked_field s ≡ 0 → length (prefix_of s) ≤ 256
asked_few s e = omega (arith, part_name_size (prefix_of s) (asked_prefix s e))

-- THE GATE of a view, whose refusal has no number: t tells whether the test x refuses
module _ (p : Bytes) (x : Result Unit Refusal) (ex : number_of x ≡ turned_number p) (t : Bool) (et : t ≡ is_err x) where
  pub view_turned : t ≡ true → (s : Bytes) → Ran (Looks (View s)) p (of_view []) p
  view_turned e s = go x ex (sym et ∙ e)
    where
      go : (y : Result Unit Refusal) → number_of y ≡ turned_number p → is_err y ≡ true → Ran (Looks (View s)) p (of_view []) p
      go (Ok u) f g = absurd (cc g)
      go (Err r) f g = turned_away_lem p (Looks (View s)) r refl f

  pub view_open : t ≡ false → Open p
  view_open e = let_in p (sym (err_none x (sym et ∙ e)) ∙ ex)

-- EACH WAY OUT
module _ (p : Bytes) (ok : Open p) (s : Bytes) where
  module _ (r : Refusal) (e : number r ≡ asked_field s) where
    pub find_refused : Ran (Looks (Find s)) p (refused (number r)) p
    find_refused = looked p ok (Find s) (refused (number r)) (subst Numbered (sym e) (asked_field_numbered s)) (λ _. refl)
        (λ S h. find_no S s (number r) (asked_first S s (number r) (sym e) (number_some r)) (number_some r))

    pub view_refused : Ran (Looks (View s)) p (of_view []) p
    view_refused = looked p ok (View s) (of_view []) zero_numbered (λ _. refl)
        (λ S h. view_no S s (number r) (asked_first S s (number r) (sym e) (number_some r)) (number_some r))

  module _ (accepted : asked_field s ≡ 0) (r m : ℕ) (er : Located p s r) (em : m ≡ count_of p) where
    missed : (S : State) → Holds p S → m ≤ r → asked_refusal S s ≡ 13
    missed S h l = asked_missing S s accepted ((er.is S h).missing (omega arith))

    thirteen : ◌≡◌ {A = ℕ} 13 0 → ⊥
    thirteen e = omega arith

    pub find_missing : m ≤ r → Ran (Looks (Find s)) p (refused 13) p
    find_missing l = looked p ok (Find s) (refused 13) (numbered 13 (omega arith) (omega arith)) (λ _. refl)
        (λ S h. find_no S s 13 (missed S h l) thirteen)

    pub view_missing : m ≤ r → Ran (Looks (View s)) p (of_view []) p
    view_missing l = looked p ok (View s) (of_view []) zero_numbered (λ _. refl) (λ S h. view_no S s 13 (missed S h l) thirteen)

    module _ (l : r < m) (f : Bytes) (ef : Sound p → r < count_of p → f ≡ field_of (row_at p r) 2) where
      there : (S : State) → Holds p S → asked_refusal S s ≡ 0
      there S h = asked_there S s (get_or S.items r no_item) accepted ((er.is S h).found (omega arith))

      bytes_are : (S : State) → Holds p S → f ≡ (get_or S.items r no_item).bytes
      bytes_are S h = ef h.lies.sound (omega arith) ∙ item_bytes p S h r ((er.is S h).within (omega arith))

      pub find_found : Ran (Looks (Find s)) p (answer 0 (length f ∷ []) []) p
      find_found = looked p ok (Find s) (answer 0 (length f ∷ []) []) zero_numbered (λ _. refl)
          (λ S h. find_yes S s (get_or S.items r no_item) f (there S h) ((er.is S h).found (omega arith)) (bytes_are S h))

      pub view_found : Ran (Looks (View s)) p (of_view f) p
      view_found = looked p ok (View s) (of_view f) zero_numbered (λ z. absurd (z refl))
          (λ S h. view_yes S s (get_or S.items r no_item) f (there S h) ((er.is S h).found (omega arith)) (bytes_are S h))
