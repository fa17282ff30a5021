-- The entries of a stream, put in one after the other.
-- Assumes nothing.
use Prim.Native.Nat.{ℕ}
use mathlib.Core.Path.{◌≡◌, refl, sym, ap, ◌∙◌, subst}
use mathlib.Core.Bool.{Bool, false, true≢false}
use mathlib.Core.List.{List, [], ◌∷◌}
use Rattle.output.specs.Answers.{Answer}
use Rattle.model.specs.Package.{State}
use Rattle.model.specs.Reading.{Entered, entry_refusal, entry_made, entries_refusal, entries_made}
use Rattle.model.proofs.Refusals.{all_none}
use Rattle.store.specs.Packages.{is_package}
use Rattle.contract.specs.Holds.{Holds}
use Rattle.contract.specs.Entries.{Entered as RowEntered}
use Rattle.contract.proofs.Opening.{is_package_lem}
use Rattle.contract.proofs.EnteredRows.{row_of_entry, limit_of_entry, entry_put}
use Rattle.reading.specs.Judging.{fields_of, AllFielded}
use Rattle.reading.specs.Entering.{FieldedAt, Added, AddedAll}

same_head : {A : Type 0} {x y : A} {s t : List A} → ◌≡◌ {A = List A} (x ∷ s) (y ∷ t) → x ≡ y
same_head h = cc

-- ONE ENTRY. Its row is put in,
pub added : (es : List Entered) (e : Entered) (p : List ℕ) (a : Answer) (q : List ℕ) → es ≡ e ∷ [] →
    RowEntered p 0 (limit_of_entry e) (row_of_entry e) a q → Added es p q
added es e p a q f w = record {
  is = λ x g S h z.
      let same : e ≡ x = same_head (sym f ∙ g) in
      subst (λ (y : Entered). Holds q (entry_made S y)) same (entry_put p S h e (subst (λ (y : Entered). entry_refusal S y ≡ 0) (sym same) z) a q w);
}

-- or the bytes are no package, so they hold none
pub added_foreign : (es : List Entered) (p q : List ℕ) (x : Bool) → x ≡ is_package p → x ≡ false → Added es p q
added_foreign es p q x t f = record { is = λ e g S h z. absurd (true≢false (sym (is_package_lem p S h) ∙ sym t ∙ f)) }

-- SO FAR. Of the entries es the rest are still to be put in
pub record AddedTo (es rest : List Entered) (q : List ℕ) (S : State) : Type 0 where
  pub after : State
  pub holds : Holds q after
  pub taken : entries_refusal after rest ≡ 0
  pub is : entries_made S es ≡ entries_made after rest

pub record AddedSo (es rest : List Entered) (p q : List ℕ) : Type 0 where
  pub fielded : AllFielded rest
  pub is : (S : State) → Holds p S → entries_refusal S es ≡ 0 → AddedTo es rest q S

pub none_added : {es : List Entered} {p : List ℕ} → AllFielded es → AddedSo es es p p
none_added f = record { fielded = f; is = λ S h z. record { after = S; holds = h; taken = z; is = refl } }

module _ {es rest : List Entered} {p q : List ℕ} (g : AddedSo es rest p q) where
  pub all_added : rest ≡ [] → AddedAll es p q
  unfolding entries_made
  all_added e = record {
    is = λ S h z.
        let u = g.is S h z in
        subst (λ (T : State). Holds q T) (sym (u.is ∙ ap (entries_made u.after) e)) u.holds;
  }

  -- the next of them is e
  module _ {l more : List Entered} {e : Entered} (n : rest ≡ e ∷ more) (f : l ≡ e ∷ []) where
    pub next_fielded : FieldedAt l
    next_fielded x y = subst (λ (k : Entered). fields_of k ≡ 0) (same_head (sym f ∙ y)) (subst AllFielded n g.fielded).0

    pub next_added : {m : List ℕ} → Added l q m → AddedSo es more p m
    unfolding entries_refusal entries_made
    next_added w = record {
      fielded = (subst AllFielded n g.fielded).1;
      is = λ S h z.
          let u = g.is S h z in
          let none = all_none _ (ap (entries_refusal u.after) (sym n) ∙ u.taken) in
          record {
            after = entry_made u.after e;
            holds = w.is e f u.after u.holds none.0;
            taken = none.1.0;
            is = u.is ∙ ap (entries_made u.after) n;
          };
    }
