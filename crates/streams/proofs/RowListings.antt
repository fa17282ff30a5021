-- The line of a row, and the lines of a run of rows, from what the parts of the code ensure.
-- Assumes nothing.
use Prim.Native.Nat.{ℕ, ◌+◌, ◌^◌, ◌≤◌, ◌<◌}
use mathlib.Core.Path.{◌≡◌, refl, ap, ap₂, sym, ◌∙◌}
use mathlib.Core.List.{List, [], ◌++◌, append_assoc, flat_map, append-nil}
use native.Mathlib.Omega.{arith}
use native.Mathlib.Numerals.{add-one}
use lib.ListN.{length, take, length-append, length-take, drop_of_length-le}
use lib.Seq.{slice-cons}
use Rattle.chars.specs.Bytes.{ascii}
use Rattle.output.specs.Sends.{Sent}
use Rattle.output.proofs.Sending.{sent_none, sent_more}
use Rattle.model.specs.Sets.{Bytes}
use Rattle.store.specs.Layout.{slot_count, count_of}
use Rattle.store.specs.Rows.{Row, no_row, row_at, tag_at, rows_of, field_of}
use Rattle.store.specs.Packages.{Shape, Sound}
use Rattle.store.proofs.Headers.{rows_count, row_get_or}
use Rattle.streams.specs.EntryLines.{type_text, relationship_text, line_of}
use Rattle.streams.specs.Streams.{row_lines, Lined, Listing, Listed}
use Rattle.streams.proofs.LineTexts.{type_length, relationship_length, default_line_lem, override_line_lem, relationship_line_lem}

-- ONE ROW; t is its tag
module _ (b : List ℕ) (i t : ℕ) (et : Shape b → i < count_of b → t ≡ tag_at b i) (o o' : Bytes) (at next : ℕ) where
  tagged : Sound b → i < count_of b → t ≡ tag_at b i
  tagged so l = et so.shape l

  pub lined_default : t ≡ 32768 → (k v : Bytes) → length k < 2 ^ 32 → length v < 2 ^ 32 → (Sound b → i < count_of b → k ≡ field_of (row_at b i) 0) → (Sound b → i < count_of b → v ≡ field_of (row_at b i) 1)
      → Sent o at (type_text (ascii "<Default Extension=\"") k v) next o' → Lined b i o at next o'
  unfolding field_of
  lined_default e k v lk lv ek ev s = record {
    text = type_text (ascii "<Default Extension=\"") k v;
    sent = s;
    few = omega (arith, type_length (ascii "<Default Extension=\"") k v);
    is = λ so l. ap₂ (type_text (ascii "<Default Extension=\"")) (ek so l) (ev so l) ∙ default_line_lem (row_at b i) (sym (tagged so l) ∙ e);
  }

  pub lined_override : (t ≡ 32768 → ⊥) → t ≡ 32769 → (k v : Bytes) → length k < 2 ^ 32 → length v < 2 ^ 32 → (Sound b → i < count_of b → k ≡ field_of (row_at b i) 0)
      → (Sound b → i < count_of b → v ≡ field_of (row_at b i) 1) → Sent o at (type_text (ascii "<Override PartName=\"") k v) next o' → Lined b i o at next o'
  unfolding field_of
  lined_override h e k v lk lv ek ev s = record {
    text = type_text (ascii "<Override PartName=\"") k v;
    sent = s;
    few = omega (arith, type_length (ascii "<Override PartName=\"") k v);
    is = λ so l. ap₂ (type_text (ascii "<Override PartName=\"")) (ek so l) (ev so l) ∙ override_line_lem (row_at b i) (λ z. h (tagged so l ∙ z)) (sym (tagged so l) ∙ e);
  }

  pub lined_relationship : (t ≡ 32768 → ⊥) → (t ≡ 32769 → ⊥) → (k v w : Bytes) → length k < 2 ^ 32 → length v < 2 ^ 32 → length w < 2 ^ 32 → (Sound b → i < count_of b → k ≡ field_of (row_at b i) 1)
      → (Sound b → i < count_of b → v ≡ field_of (row_at b i) 2) → (Sound b → i < count_of b → w ≡ field_of (row_at b i) 3) → Sent o at (relationship_text t k v w) next o' → Lined b i o at next o'
  unfolding field_of
  lined_relationship h j k v w lk lv lw ek ev ew s = record {
    text = relationship_text t k v w;
    sent = s;
    few = omega (arith, relationship_length t k v w);
    is = λ so l.
        ap₂ (λ (n : ℕ) (x : Bytes). relationship_text n x v w) (tagged so l) (ek so l)
        ∙ ap₂ (relationship_text (tag_at b i) (row_at b i).f1) (ev so l) (ew so l)
        ∙ relationship_line_lem (row_at b i) (λ z. h (tagged so l ∙ z)) (λ z. j (tagged so l ∙ z));
  }

-- A RUN OF ROWS
module _ (b : List ℕ) (f t : ℕ) (out : Bytes) (at : ℕ) where
  pub listing_begin : Listing b f t out at f at out
  listing_begin = record { text = []; sent = sent_none out at; low = omega arith; high = omega arith; few = omega arith; is = λ _ _. refl }

  module _ (i next : ℕ) (out' : Bytes) (w : Listing b f t out at i next out') where
    -- the place of the next line is far below what a number holds
    pub listing_near : t ≤ slot_count → at ≤ 2 ^ 52 → next ≤ 2 ^ 53
    listing_near l m = omega (arith, w.sent.next_is, w.few, w.high)

    pub listing_more : length out' ≡ length out → i < t → (next' : ℕ) (out'' : Bytes) → Lined b i out' next next' out'' → Listing b f t out at (i + 1) next' out''
    unfolding flat_map
    listing_more same l next' out'' x = record {
      text = w.text ++ x.text;
      sent = sent_more out out' out'' w.text x.text at next next' w.sent same x.sent;
      low = omega (arith, w.low);
      high = omega (arith, w.low);
      few = omega (arith, length-append w.text x.text, w.few, x.few, w.low);
      is = λ so m. w.is so m ∙ ap (λ (s : Bytes). w.text ++ s) (line so m) ∙ sym (append_assoc w.text x.text (row_lines (i + 1) t (rows_of b)));
    }
      where
        line : Sound b → t ≤ count_of b → row_lines i t (rows_of b) ≡ x.text ++ row_lines (i + 1) t (rows_of b)
        line so m =
            let k : i < count_of b = omega arith in
            ap (flat_map line_of) (slice-cons i t (rows_of b) no_row l (omega (arith, rows_count b)))
            ∙ ap₂ (λ (r : Row) (n : ℕ). line_of r ++ row_lines n t (rows_of b)) (row_get_or b i k) (sym (add-one i))
            ∙ ap (λ (s : Bytes). s ++ row_lines (i + 1) t (rows_of b)) (sym (x.is so k))

    pub listed_end : t ≤ i → t ≤ slot_count → Listed b f t out at next out'
    unfolding flat_map
    listed_end l m = record {
      text = w.text;
      sent = w.sent;
      few = omega (arith, w.few, w.high);
      is = λ so k. sym (w.is so k ∙ ap (λ (r : List Row). w.text ++ flat_map line_of r) (drop_of_length-le (take t (rows_of b)) {i = i} (omega (arith, length-take t (rows_of b)))) ∙ append-nil w.text);
    }
