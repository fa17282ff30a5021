-- The answers of a cut: one law for each way out.
-- Assumes nothing.
use Prim.Native.Nat.{ℕ, suc, ◌+◌, ◌-◌, ◌*◌, ◌/◌, ◌%◌, ◌≤◌, ◌<◌, min}
use mathlib.Core.Path.{◌≡◌, refl, sym, ap, ap₂, subst, ◌∙◌}
use mathlib.Core.Bool.{Bool, true, false, not}
use mathlib.Core.List.{List, [], ◌∷◌}
use native.Mathlib.Omega.{arith}
use native.Mathlib.Nat.{suc-mul}
use lib.Dec.{leb, ltb, eqb}
use lib.ListN.{length, get_or, take}
use lib.Seq.{length-take-le, take-length}
use borrow.Author.Tests.{eq-eqb, ne_eqb, not-true, not-false, lt-ltb, le-ltb, le-leb, leb-true, leb-false}
use Rattle.chars.specs.Bytes.{within}
use Rattle.std.specs.Prelude.{Ok, Err}
use Rattle.output.specs.Answers.{answer}
use Rattle.output.specs.Refusals.{number}
use Rattle.output.specs.declared.refusals.Refusal.{Refusal}
use Rattle.output.specs.declared.refusals.Refusal.TheVariants.{NotAPartName}
use Rattle.base.specs.Buffer.{part, splice}
use Rattle.base.proofs.Writes.{write, within as inside_write, part_all}
use Rattle.names.specs.Names.{part_name}
use Rattle.names.proofs.Lengths.{name_some, name_few}
use Rattle.model.specs.Sets.{Bytes}
use Rattle.model.specs.Fields.{first}
use Rattle.model.specs.Package.{Item, State, no_item, item_limit, charge, group, is_part, spelling, content}
use Rattle.model.specs.Cutting.{is_whole, cut_made, overfull, cut_refusal, suffix_sum}
use Rattle.model.specs.Calls.{CutPart}
use Rattle.model.proofs.Numbers.{numbered, zero_numbered}
use Rattle.model.proofs.Wholes.{OneWhole, part_some, whole_part}
use Rattle.model.proofs.Cutting.{group_named}
use Rattle.model.proofs.CutRefusals.{cut_part, cut_whole, cut_done}
use Rattle.model.proofs.CutRuns.{cut_length, cut_charge}
use Rattle.store.specs.Layout.{cap_of, count_of, used_of}
use Rattle.store.specs.Rows.{row_at, tag_at, field_of}
use Rattle.store.specs.Packages.{Shape, Sound}
use Rattle.contract.specs.Holds.{Holds}
use Rattle.contract.specs.Searches.{Counted}
use Rattle.contract.specs.Answers.{of_cut}
use Rattle.contract.specs.declared.answers.Cut.{Cut}
use Rattle.contract.specs.Ran.{Ran}
use Rattle.contract.specs.Opening.{Open}
use Rattle.contract.proofs.Rans.{ran_cut, ran_cut_refused}
use Rattle.contract.proofs.RowCharges.{used_charge}
use Rattle.contract.proofs.ItemRows.{items_le, item_prefix, item_bytes}
use Rattle.parts.specs.Runs.{Grouped, Judged}
use Rattle.parts.proofs.GroupRuns.{part_of}
use Rattle.pieces.specs.Cuts.{WholeAt, CutRoom, CutRefused, Divided, CutRow}
use Rattle.pieces.proofs.PartTags.{first_there, first_item, whole_told, spelling_told}

-- a test that holds exactly where another does not
leb_not : (x f : ℕ) (e : Bool) → (x ≤ f → e ≡ false) → (f < x → e ≡ true) → leb x f ≡ not e
leb_not x f e lo hi = go (leb x f) refl
  where
    go : (z : Bool) → leb x f ≡ z → z ≡ not e
    go true q = sym (ap not (lo (leb-true x f q)))
    go false q = sym (ap not (hi (leb-false x f q)))

-- "Cutting meets 15 by what would stand after it": i items and f free bytes now, n pieces with a prefix of p bytes
module _ (b : List ℕ) (p n i : ℕ) (some : 0 < n) (c : Counted b i) where
  pub room_many : 257 < i + n → CutRoom b p n false
  room_many l = record {
    is = λ S name h pa wh ep.
        let e : ltb item_limit (length (cut_made S name n).items) ≡ true = lt-ltb item_limit (length (cut_made S name n).items) (omega (arith, cut_length S name n pa wh, c.is S h)) in
        rw e refl;
  }

  pub room_told : i + n ≤ 257 → (f s : ℕ) → f + used_of b ≡ cap_of b → s ≡ suffix_sum n n → CutRoom b p n (leb ((n - 1) * p + s) f)
  room_told l f s ef es = record {
    is = λ S name h pa wh ep.
        let T : State = cut_made S name n in
        let few : ltb item_limit (length T.items) ≡ false = le-ltb item_limit (length T.items) (omega (arith, cut_length S name n pa wh, c.is S h)) in
        let more = cut_charge S name n pa wh some in
        let same : n * p ≡ n * length (spelling (group name S.items)) = ap (λ (k : ℕ). n * k) ep in
        rw few (leb_not ((n - 1) * p + s) f (ltb S.capacity (charge T))
        (λ q. le-ltb S.capacity (charge T) (omega (arith, more, same, times, used_charge b S h, h.lies.capacity)))
        (λ q. lt-ltb S.capacity (charge T) (omega (arith, more, same, times, used_charge b S h, h.lies.capacity))));
  }
    where
      times : n * p ≡ (n - 1) * p + p
      times = let e : n ≡ suc (n - 1) = omega arith in ap (λ (k : ℕ). k * p) e ∙ suc-mul (n - 1) p

-- THE REFUSAL by the rows f to t
module _ (b : List ℕ) (f t n : ℕ) (y : Bool) (j : Judged b f t y) where
  judged : (S : State) (name : Bytes) → Holds b S → Grouped b name f t → is_part (group name S.items) ≡ y
  judged S name h g = sym ((part_of b name f t g y j).is S h)

  pub cut_no_part : not y ≡ true → CutRefused b f t n 13
  unfolding first
  cut_no_part hy = record {
    is = λ S name h g. rw (judged S name h g, not-true y hy) refl;
    numbered = numbered 13 (omega arith) (omega arith);
    range = λ z. absurd (omega arith);
  }

  module _ (hy : not y ≡ false) (u : ℕ) (eu : Shape b → f < count_of b → u ≡ tag_at b f) where
    whole_is : (S : State) (name : Bytes) → Holds b S → Grouped b name f t → is_whole (group name S.items) ≡ eqb u 0
    whole_is S name h g = whole_told b name f t g S h (judged S name h g ∙ not-false y hy) u eu

    pub cut_in_pieces : (u ≡ 0 → ⊥) → CutRefused b f t n 18
    unfolding first
    cut_in_pieces z = record {
      is = λ S name h g. rw (judged S name h g, not-false y hy, whole_is S name h g, ne_eqb u 0 z) refl;
      numbered = numbered 18 (omega arith) (omega arith);
      range = λ e. absurd (omega arith);
    }

    module _ (e : u ≡ 0) where
      pub cut_uncounted : within 1 256 n ≡ false → CutRefused b f t n 17
      unfolding first
      cut_uncounted w = record {
        is = λ S name h g. rw (judged S name h g, not-false y hy, whole_is S name h g, eq-eqb u 0 e, w) refl;
        numbered = numbered 17 (omega arith) (omega arith);
        range = λ z. absurd (omega arith);
      }

      -- s is the first field of row f
      module _ (lo : 1 ≤ n) (hi : n ≤ 256) (s : List ℕ) (es : Sound b → f < count_of b → s ≡ field_of (row_at b f) 0) (z : Bool) (r : CutRoom b (length s) n z) where
        full : (S : State) (name : Bytes) → Holds b S → Grouped b name f t → z ≡ not (overfull (cut_made S name n))
        full S name h g =
            let pa = judged S name h g ∙ not-false y hy in
            let i : f < count_of b = omega (arith, first_there b name f t g S h pa, items_le b S h) in
            r.is S name h pa (whole_is S name h g ∙ eq-eqb u 0 e)
            (ap length (es h.lies.sound i ∙ sym (spelling_told b name f t g S h pa)))

        inside : within 1 256 n ≡ true
        inside = rw (le-leb 1 n lo, le-leb n 256 hi) refl

        pub cut_full : z ≡ false → CutRefused b f t n 15
        unfolding first
        cut_full ez = record {
          is = λ S name h g.
              let o : overfull (cut_made S name n) ≡ true = not-false (overfull (cut_made S name n)) (sym (full S name h g) ∙ ez) in
              rw (judged S name h g, not-false y hy, whole_is S name h g, eq-eqb u 0 e, inside, o) refl;
          numbered = numbered 15 (omega arith) (omega arith);
          range = λ q. absurd (omega arith);
        }

        pub cut_fits : z ≡ true → CutRefused b f t n 0
        unfolding first
        cut_fits ez = record {
          is = λ S name h g.
              let o : overfull (cut_made S name n) ≡ false = not-true (overfull (cut_made S name n)) (sym (full S name h g) ∙ ez) in
              rw (judged S name h g, not-false y hy, whole_is S name h g, eq-eqb u 0 e, inside, o) refl;
          numbered = zero_numbered;
          range = λ q. (lo, hi);
        }

-- THE CUT of row r, which has the fields x and s; p bytes of x were copied
copied : (l m x : List ℕ) (p : ℕ) → m ≡ splice l 0 (take p x) → p ≤ length x → p ≤ length l → take p m ≡ take p x
unfolding part
copied l m x p e h k =
    let z : length (take p x) ≡ p = length-take-le p x h in
    let w = write l m 0 p (take p x) e z (omega arith) in
    inside_write w 0 0 p (omega arith) (omega arith) ∙ part_all p (take p x) z

module _ (b : List ℕ) (r n p : ℕ) (x s : List ℕ) (ex : Sound b → r < count_of b → x ≡ field_of (row_at b r) 0) (es : Sound b → r < count_of b → s ≡ field_of (row_at b r) 2)
    (ep : p ≡ min (length x) 255) where
  module _ (S : State) (name : Bytes) (h : Holds b S) (ok : cut_refusal S name n ≡ 0) (at : WholeAt S name r) where
    abbrev g : List Item
    g = group name S.items

    one : OneWhole g (get_or S.items r no_item)
    one = subst (λ (i : Item). OneWhole g i) (ap (λ (l : List Item). get_or l 0 no_item) at.1) (whole_part g (cut_part S name n ok) (cut_whole S name n ok))

    there : r < count_of b
    there = omega (arith, at.0, items_le b S h)

    held_name : x ≡ spelling g
    held_name = ex h.lies.sound there ∙ item_prefix b S h r at.0 ∙ one.prefix ∙ sym one.spelled

    held_bytes : length s ≡ length (content g)
    held_bytes = ap length (es h.lies.sound there ∙ item_bytes b S h r at.0 ∙ sym one.held)

    name_length : (0 < length x) × (p ≡ length x)
    name_length =
        let w = group_named S h.good name (part_some g (cut_part S name n ok)) in
        let e = ap length held_name in
        (omega (arith, name_some (spelling g) w), omega (arith, name_few (spelling g) w))

  abbrev split_even : Cut
  split_even = record { size = length s / n; rest = length s % n }

  pub cut_nameless : p ≡ 0 → CutRow b b r n split_even
  cut_nameless z = record { is = λ S name h ok at. absurd (omega (arith, name_length S name h ok at)) }

  pub cut_row_done : (l t m : List ℕ) → t ≡ splice l 0 (take p x) → 255 ≤ length l → Divided b m r (take p t) n (length s / n) (length s % n) → CutRow b m r n split_even
  cut_row_done l t m e len d = record {
    is = λ S name h ok at.
        let w = name_length S name h ok at in
        let en : take p t ≡ spelling (group name S.items) = copied l t x p e (omega arith) (omega arith) ∙ ap (λ (k : ℕ). take k x) w.1 ∙ take-length x ∙ held_name S name h ok at in
        let el = held_bytes S name h ok at in
        let size = ap (λ (k : ℕ). k / n) el in
        let rest = ap (λ (k : ℕ). k % n) el in
        (size, rest, d.is S name h ok at en size rest);
  }

-- THE CALL
module _ (b : List ℕ) (o : Open b) (name : Bytes) (n : ℕ) (q : Bool) (eq : q ≡ part_name name) where
  -- "4 not a part name"
  pub cut_misnamed : not q ≡ true → Ran (CutPart name n) b (of_cut (Err NotAPartName)) b
  unfolding cut_refusal first
  cut_misnamed hq = ran_cut_refused b o name n NotAPartName (numbered 4 (omega arith) (omega arith)) (λ S h. rw (← eq, not-true q hq) refl)

  module _ (hq : not q ≡ false) (f t : ℕ) (g : Grouped b name f t) where
    refusal : (k : ℕ) → CutRefused b f t n k → (S : State) → Holds b S → cut_refusal S name n ≡ k
    unfolding cut_refusal first
    refusal k w S h = rw (← eq, not-false q hq) (sym (w.is S name h g))

    -- "18 follows 13, then comes 17, then 15"
    pub cut_stopped : (r : Refusal) → CutRefused b f t n (number r) → Ran (CutPart name n) b (of_cut (Err r)) b
    cut_stopped r w = ran_cut_refused b o name n r w.numbered (refusal (number r) w)

    pub cut_made_lem : CutRefused b f t n 0 → (a : Cut) (m : List ℕ) → length m ≡ length b → CutRow b m f n a → Ran (CutPart name n) b (of_cut (Ok a)) m
    cut_made_lem w a m l d =
        ran_cut b o name n (of_cut (Ok a)) m l zero_numbered (λ e. absurd (e refl))
        (λ S h.
        let ok = refusal 0 w S h in
        let pa = cut_part S name n ok in
        let at : WholeAt S name f =
        (first_there b name f t g S h pa, (whole_part (group name S.items) pa (cut_whole S name n ok)).only ∙ ap (λ (i : Item). i ∷ []) (first_item b name f t g S h pa)) in
        let made = d.is S name h ok at in
        rw (cut_done S name n ok) (ap₂ (λ (i j : ℕ). answer 0 (i ∷ j ∷ []) []) made.0 made.1, made.2))
