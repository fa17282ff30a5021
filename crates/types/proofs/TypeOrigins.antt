-- Each way out of the call that tells how a media type was arrived at, and of the function that writes the key.
-- Assumes nothing.
use Prim.Native.Nat.{ℕ, ◌≤◌, ◌<◌}
use mathlib.Core.Path.{◌≡◌, refl, ap, ap₂, sym, ◌∙◌}
use mathlib.Core.Bool.{cond}
use mathlib.Core.List.{List, [], ◌∷◌, ◌++◌}
use mathlib.Core.Option.{some, none-ne-some, some-injective}
use native.Mathlib.Omega.{arith}
use lib.Dec.{eqb}
use lib.ListN.{length, drop}
use borrow.Author.Tests.{eq-eqb, ne_eqb}
use Rattle.std.specs.Prelude.{Ok, Err}
use Rattle.output.specs.Answers.{Answer, answer, refusing}
use Rattle.output.specs.Refusals.{number}
use Rattle.output.specs.declared.refusals.Refusal.{Refusal}
use Rattle.output.specs.declared.refusals.Unwritten.TheVariants as unwritten
use Rattle.output.proofs.Answering.{number_some}
use Rattle.model.specs.Sets.{Bytes}
use Rattle.model.specs.Package.{State}
use Rattle.model.specs.TypeOrigin.{Origin, ByOverride, ByDefault, Neither, origin_of, kind_of, key_of, keyed, type_origin}
use Rattle.model.specs.Calls.{TypeOrigin}
use Rattle.model.proofs.Numbers.{numbered, zero_numbered}
use Rattle.model.proofs.Origins.{keyed_fits, keyed_short, origin_done, origin_refused}
use Rattle.store.specs.Layout.{count_of}
use Rattle.store.specs.Rows.{Row, row_at, tag_at, field_of}
use Rattle.store.specs.Packages.{Shape, Sound}
use Rattle.contract.specs.Rows.{override_tag, default_row, override_row}
use Rattle.contract.specs.Holds.{Holds}
use Rattle.contract.specs.Ran.{Ran}
use Rattle.contract.specs.Opening.{Open}
use Rattle.contract.proofs.Rans.{traced}
use Rattle.parts.specs.Runs.{PartRefused}
use Rattle.types.specs.TypeRows.{origin_row, Typed, RowKeyed}
use Rattle.types.specs.TypeOrigins.{of_type_origin}
use Rattle.types.specs.declared.origin.TypeOrigin.TheVariants as told
use Rattle.types.proofs.TypeLookups.{row_neither}

-- THE ROW of the entry tells its key, in its first field, and its kind, by its tag
row_key_lem : (x : Origin) (y : Row) → origin_row x ≡ some y → key_of x ≡ field_of y 0
unfolding override_row default_row field_of
row_key_lem (ByOverride o) y e = ap (λ (w : Row). field_of w 0) (some-injective (override_row o) y e)
row_key_lem (ByDefault d) y e = ap (λ (w : Row). field_of w 0) (some-injective (default_row d) y e)
row_key_lem Neither y e = absurd (none-ne-some y e)

kind_by : ℕ → ℕ
kind_by g = cond (eqb g override_tag) 2 1

row_kind : (x : Origin) (y : Row) → origin_row x ≡ some y → kind_of x ≡ kind_by y.tag
unfolding override_row default_row kind_by
row_kind (ByOverride o) y e = ap (λ (w : Row). kind_by w.tag) (some-injective (override_row o) y e)
row_kind (ByDefault d) y e = ap (λ (w : Row). kind_by w.tag) (some-injective (default_row d) y e)
row_kind Neither y e = absurd (none-ne-some y e)

-- THE KEY, s, of the entry in row r
module _ (b : List ℕ) (r : ℕ) (l : r < count_of b) (out s : Bytes) (es : Sound b → r < count_of b → s ≡ field_of (row_at b r) 0) where
  key_is : (S : State) → Holds b S → (x : Origin) → origin_row x ≡ some (row_at b r) → s ≡ key_of x
  key_is S h x e = es h.lies.sound l ∙ sym (row_key_lem x (row_at b r) e)

  pub key_short : length out < length s → RowKeyed b r out (of_type_origin (Err (unwritten.TooShort (length s))) out)
  key_short f = record {
    kept = λ _. refl;
    numbered = numbered 3 (omega arith) (omega arith);
    is = λ S h x e. sym (keyed_short (kind_of x) s out f) ∙ ap (λ (t : Bytes). keyed (kind_of x) t out) (key_is S h x e);
  }

  -- g is its tag, out' what the output then holds
  module _ (f : length s ≤ length out) (out' : Bytes) (w : out' ≡ s ++ drop (length s) out) (g : ℕ) (eg : Shape b → r < count_of b → g ≡ tag_at b r) where
    key_written : RowKeyed b r out (answer 0 (kind_by g ∷ length s ∷ []) out')
    key_written = record {
      kept = λ z. absurd (z refl);
      numbered = zero_numbered;
      is = λ S h x e.
          let k : kind_by g ≡ kind_of x = ap kind_by (eg h.lies.sound.shape l) ∙ sym (row_kind x (row_at b r) e) in
          ap (answer 0 (kind_by g ∷ length s ∷ [])) w ∙ sym (keyed_fits (kind_by g) s out f) ∙ ap₂ (λ (n : ℕ) (t : Bytes). keyed n t out) k (key_is S h x e);
    }

    pub key_override : g ≡ override_tag → RowKeyed b r out (of_type_origin (Ok (told.Override (length s))) out')
    unfolding kind_by
    key_override e = rw (eq-eqb g override_tag e) at key_written

    pub key_default : (g ≡ override_tag → ⊥) → RowKeyed b r out (of_type_origin (Ok (told.Default (length s))) out')
    unfolding kind_by
    key_default z = rw (ne_eqb g override_tag z) at key_written

-- EACH WAY OUT OF THE CALL
module _ (b : List ℕ) (o : Open b) (name out : Bytes) where
  -- "Its other refusals are that call's"
  pub origin_stopped : (n : Refusal) → PartRefused b name (number n) → Ran (TypeOrigin name out) b (refusing 2 n out) b
  origin_stopped n e =
      traced b o name out (refusing 2 n out) e.numbered (λ _. refl)
      (λ S h.
      ap (λ (k : ℕ). answer k (0 ∷ 0 ∷ []) out) (e.is S h) ∙ sym (origin_refused S name out (λ y. number_some n (e.is S h ∙ y))))

  module _ (e : PartRefused b name 0) (r m : ℕ) (t : Typed b name r) (em : m ≡ count_of b) where
    told_as : (S : State) → Holds b S → type_origin S name out ≡ keyed (kind_of (origin_of name S)) (key_of (origin_of name S)) out
    told_as S h = origin_done S name out (sym (e.is S h))

    -- "neither: 0, nothing written"
    pub origin_neither : m ≤ r → Ran (TypeOrigin name out) b (answer 0 (0 ∷ 0 ∷ []) out) b
    origin_neither l =
        traced b o name out _ zero_numbered (λ _. refl)
        (λ S h.
        let x : origin_of name S ≡ Neither = row_neither (origin_of name S) (t.missing S h (omega arith)) in
        sym (told_as S h ∙ ap (λ (y : Origin). keyed (kind_of y) (key_of y) out) x ∙ keyed_fits 0 [] out (omega arith)))

    pub origin_keyed : r < m → (a : Answer) → RowKeyed b r out a → Ran (TypeOrigin name out) b a b
    origin_keyed l a w =
        traced b o name out a w.numbered w.kept
        (λ S h. w.is S h (origin_of name S) (t.found S h (omega arith)) ∙ sym (told_as S h))
