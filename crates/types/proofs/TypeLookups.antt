-- The entry that gives a name its media type, by the rows of the Overrides and the Defaults; each way out of the media type call.
-- Assumes nothing.
use Prim.Native.Nat.{ℕ, ◌+◌, ◌≤◌, ◌<◌}
use mathlib.Core.Path.{◌≡◌, refl, ap, sym, ◌∙◌}
use mathlib.Core.Bool.{Bool, true, false, cond}
use mathlib.Core.List.{List, [], ◌∷◌}
use mathlib.Core.Option.{Option, none, some, none-ne-some, some-injective}
use native.Mathlib.Omega.{arith}
use lib.Dec.{eqb}
use lib.ListN.{length, drop, length-drop}
use borrow.Author.Tests.{eq-eqb, ne_eqb}
use Rattle.chars.specs.Bytes.{dot, slash}
use Rattle.chars.specs.Lists.{after_last}
use Rattle.chars.proofs.Searches.{last_le}
use Rattle.output.specs.Answers.{Answer, answer, refusing, written, Text, Refused}
use Rattle.output.specs.Refusals.{number}
use Rattle.output.specs.declared.refusals.Refusal.{Refusal}
use Rattle.output.proofs.Answering.{number_some}
use Rattle.names.specs.Names.{last_segment, extension_at}
use Rattle.model.specs.Sets.{Bytes, lookup}
use Rattle.model.specs.Package.{State, Default, Override, name_key, key_of_default, key_of_override, default_for, media_type_of}
use Rattle.model.specs.TypeOrigin.{Origin, ByOverride, ByDefault, Neither, origin_in, origin_of}
use Rattle.model.specs.Calls.{Prints, MediaType}
use Rattle.model.proofs.Numbers.{numbered}
use Rattle.model.proofs.Origins.{given, origin_type, type_printed, type_refused}
use Rattle.store.specs.Layout.{count_of}
use Rattle.store.specs.Rows.{Row, row_at, rows_of, field_of}
use Rattle.store.specs.Packages.{Sound}
use Rattle.contract.specs.Rows.{second, key_in, row_key, default_row, override_row, default_rows, override_rows}
use Rattle.contract.specs.Holds.{Holds}
use Rattle.contract.specs.Entries.{Sought}
use Rattle.contract.specs.Ran.{Ran}
use Rattle.contract.specs.Opening.{Open}
use Rattle.contract.proofs.RowOrders.{holds_ordered}
use Rattle.contract.proofs.RowEntries.{row_here, row_none}
use Rattle.contract.proofs.SetRows.{row_for}
use Rattle.contract.proofs.RowKinds.{override_rows_lem, default_rows_lem}
use Rattle.contract.proofs.SetStates.{found_row}
use Rattle.parts.specs.Runs.{PartRefused}
use Rattle.parts.proofs.TextAnswers.{text_refused, text_answered}
use Rattle.types.specs.TypeRows.{origin_row, Typed}

-- THE ROW of the entry that gives the type
override_origin : (o : Option Override) (d : Option Default) (y : Row) → row_for override_row o ≡ some y → origin_row (origin_in o d) ≡ some y
override_origin none d y e = absurd (none-ne-some y e)
override_origin (some o) d y e = e

default_origin : (d : Option Default) → origin_row (origin_in none d) ≡ row_for default_row d
default_origin none = refl
default_origin (some d) = refl

no_override : (o : Option Override) → row_for override_row o ≡ none → o ≡ none
no_override none e = refl
no_override (some o) e = absurd (none-ne-some (override_row o) (sym e))

-- it tells the type, in its second field
row_type : (x : Origin) (y : Row) → origin_row x ≡ some y → given x ≡ some (field_of y 1)
unfolding override_row default_row field_of
row_type (ByOverride o) y e = ap (λ (w : Row). some (field_of w 1)) (some-injective (override_row o) y e)
row_type (ByDefault d) y e = ap (λ (w : Row). some (field_of w 1)) (some-injective (default_row d) y e)
row_type Neither y e = absurd (none-ne-some y e)

pub row_neither : (x : Origin) → origin_row x ≡ none → x ≡ Neither
row_neither (ByOverride o) e = absurd (none-ne-some (override_row o) (sym e))
row_neither (ByDefault d) e = absurd (none-ne-some (default_row d) (sym e))
row_neither Neither e = refl

-- so the row that is found has the media type of the name
module _ (b : List ℕ) (name : Bytes) (r : ℕ) (t : Typed b name r) (S : State) (h : Holds b S) where
  pub typed_found : r < count_of b → media_type_of name S ≡ some (field_of (row_at b r) 1)
  typed_found l = origin_type S name ∙ row_type (origin_of name S) (row_at b r) (t.found S h l)

  pub typed_missing : count_of b ≤ r → media_type_of name S ≡ none
  typed_missing l = origin_type S name ∙ ap given (row_neither (origin_of name S) (t.missing S h l))

module _ (b : List ℕ) (S : State) (h : Holds b S) (s : Bytes) where
  override_row_lem : lookup row_key (key_in 2 s 0 []) (rows_of b) ≡ row_for override_row (lookup key_of_override (name_key s) S.overrides)
  unfolding second
  override_row_lem = found_row override_rows override_rows_lem b S h (name_key s)

  default_row_lem : lookup row_key (key_in 1 s 0 []) (rows_of b) ≡ row_for default_row (lookup key_of_default (name_key s) S.defaults)
  unfolding second
  default_row_lem = found_row default_rows default_rows_lem b S h (name_key s)

extension_le : (s : Bytes) → extension_at s ≤ length s
unfolding extension_at
extension_le s = go (eqb (after_last dot (last_segment s)) 0)
  where
    go : (t : Bool) → cond t 0 (after_last slash s + after_last dot (last_segment s)) ≤ length s
    go true = omega arith
    go false = let e = length-drop (after_last slash s) s in omega (arith, last_le slash s, last_le dot (last_segment s))

pub extension_inside : (s : Bytes) (i : ℕ) → i ≡ extension_at s → i ≤ length s
extension_inside s i e = omega (arith, extension_le s)

-- EACH WAY OUT OF THE SEARCH; r is the row of the Override
module _ (b : List ℕ) (s : Bytes) (r m : ℕ) (er : Sought b (key_in 2 s 0 []) r) (em : m ≡ count_of b) where
  -- "its Override"
  pub typed_override : r < m → Typed b s r
  unfolding origin_of
  typed_override l = record {
    found = λ S h k. override_origin (lookup key_of_override (name_key s) S.overrides) (default_for s S.defaults) (row_at b r) (sym (override_row_lem b S h s) ∙ row_here b (holds_ordered b S h) (key_in 2 s 0 []) r er k);
    missing = λ S h k. absurd (omega arith);
  }

  module _ (l : m ≤ r) (i : ℕ) (ei : i ≡ extension_at s) where
    -- "else the Default of its extension"
    origin_is : (S : State) → Holds b S → origin_row (origin_of s S) ≡ row_for default_row (cond (eqb i 0) none (lookup key_of_default (name_key (drop i s)) S.defaults))
    unfolding origin_of
    origin_is S h =
        ap (λ (o : Option Override). origin_row (origin_in o (default_for s S.defaults)))
        (no_override (lookup key_of_override (name_key s) S.overrides) (sym (override_row_lem b S h s) ∙ row_none b (holds_ordered b S h) (key_in 2 s 0 []) r er (omega arith)))
        ∙ default_origin (default_for s S.defaults)
        ∙ ap (λ (j : ℕ). row_for default_row (cond (eqb j 0) none (lookup key_of_default (name_key (drop j s)) S.defaults))) (sym ei)

    pub typed_bare : i ≡ 0 → Typed b s m
    typed_bare z = record { found = λ S h k. absurd (omega arith); missing = λ S h k. origin_is S h ∙ rw (eq-eqb i 0 z) }

    pub typed_default : (i ≡ 0 → ⊥) → (j : ℕ) → Sought b (key_in 1 (drop i s) 0 []) j → Typed b s j
    typed_default z j ej = record {
      found = λ S h k.
          origin_is S h
          ∙ rw (ne_eqb i 0 z) (sym (default_row_lem b S h (drop i s)) ∙ row_here b (holds_ordered b S h) (key_in 1 (drop i s) 0 []) j ej k);
      missing = λ S h k.
          origin_is S h
          ∙ rw (ne_eqb i 0 z) (sym (default_row_lem b S h (drop i s)) ∙ row_none b (holds_ordered b S h) (key_in 1 (drop i s) 0 []) j ej k);
    }

-- EACH WAY OUT OF THE CALL
module _ (b : List ℕ) (o : Open b) (name out : Bytes) where
  -- "4 not a part name", "13 not held, no part yet"
  pub type_stopped : (n : Refusal) → PartRefused b name (number n) → Ran (Prints (MediaType name) out) b (refusing 1 n out) b
  type_stopped n e =
      text_refused b o (MediaType name) refl out (number n) e.numbered
      (λ S h. type_refused S name (length out) (λ y. number_some n (e.is S h ∙ y)) ∙ ap Refused (sym (e.is S h)))

  module _ (e : PartRefused b name 0) (r m : ℕ) (t : Typed b name r) (em : m ≡ count_of b) where
    -- "14 no media type"
    pub type_none : m ≤ r → Ran (Prints (MediaType name) out) b (answer 14 (0 ∷ []) out) b
    type_none l =
        text_refused b o (MediaType name) refl out 14 (numbered 14 (omega arith) (omega arith))
        (λ S h. type_printed S name (length out) (sym (e.is S h)) ∙ rw (typed_missing b name r t S h (omega arith)))

    pub type_written : r < m → (s : Bytes) → (Sound b → r < count_of b → s ≡ field_of (row_at b r) 1) → (a : Answer) → a ≡ written (Text s []) out → Ran (Prints (MediaType name) out) b a b
    type_written l s es a ea =
        text_answered b o (MediaType name) refl out s a ea
        (λ S h.
        let x : s ≡ field_of (row_at b r) 1 = es h.lies.sound (omega arith) in
        type_printed S name (length out) (sym (e.is S h)) ∙ rw (typed_found b name r t S h (omega arith), ← x))
