-- The rows that each call lists, and each way out of it.
-- Assumes nothing.
use Prim.Native.Nat.{ℕ, ◌+◌}
use mathlib.Core.Path.{◌≡◌, refl, ap, ap₂, sym, subst, ◌∙◌}
use mathlib.Core.List.{List, [], ◌∷◌, ◌++◌, map, append_assoc, flat_map}
use native.Mathlib.Nat.{add-zero}
use lib.ListN.{length, length-append, length-map}
use lib.Seq.{slice, take-append_seam}
use borrow.Author.Tests.{ne_eqb}
use Rattle.chars.specs.Bytes.{ascii}
use Rattle.chars.specs.Folding.{fold}
use Rattle.output.specs.Answers.{Answer, refusing}
use Rattle.targets.specs.Targets.{source_refusal}
use Rattle.output.specs.Refusals.{number}
use Rattle.output.specs.declared.refusals.Refusal.{Refusal}
use Rattle.output.proofs.Answering.{number_some}
use Rattle.model.specs.Sets.{Bytes}
use Rattle.model.specs.Places.{first_where, bound}
use Rattle.model.specs.Package.{Relationship, State, key_of_relationship}
use Rattle.model.specs.Texts.{declaration, default_line, override_line, relationship_line, of_source, types_text, relationships_text}
use Rattle.model.specs.Calls.{Prints, WriteTypes, WriteRelationships, Numbered, printed}
use Rattle.model.proofs.Numbers.{source_field_numbered}
use Rattle.model.proofs.Lists.{slice_map, slice_append}
use Rattle.model.proofs.Joins.{flat_map_append, flat_map_map}
use Rattle.model.proofs.Groups.{tilde, source_between}
use Rattle.store.specs.Rows.{Row, rows_of}
use Rattle.contract.specs.Rows.{item_row, default_row, override_row, relationship_row, relationship_rows, other_rows, rows_for, second, key_in, row_key}
use Rattle.contract.specs.Holds.{Holds}
use Rattle.contract.specs.Searches.{Bounded}
use Rattle.contract.specs.Ran.{Ran}
use Rattle.contract.specs.Opening.{Open}
use Rattle.contract.proofs.RowKinds.{relationship_rows_lem}
use Rattle.contract.proofs.RowOrders.{set_bound, holds_ordered}
use Rattle.contract.proofs.ItemRows.{item_count}
use Rattle.contract.proofs.SetRows.{none_before}
use Rattle.parts.proofs.TextAnswers.{text_refused}
use Rattle.streams.specs.EntryLines.{line_of}
use Rattle.streams.specs.Streams.{row_lines, stream_of, Answered}
use Rattle.streams.proofs.LineTexts.{default_row_line, override_row_line, relationship_row_line}
use Rattle.streams.proofs.StreamAnswers.{stream_ran}

module _ (S : State) where
  abbrev I : List Row
  I = map item_row S.items

  abbrev D : List Row
  D = map default_row S.defaults

  abbrev O : List Row
  O = map override_row S.overrides

  abbrev R : List Row
  R = map relationship_row S.relationships

module _ (b : List ℕ) (S : State) (h : Holds b S) where
  -- where a key stands among the relationships
  relationship_bound : (p id : Bytes) (r : ℕ) → Bounded b (key_in 3 p 0 id) r → r ≡ length (I S ++ (D S ++ O S)) + bound key_of_relationship (fold p, id) S.relationships
  unfolding second relationship_rows_lem
  relationship_bound p id r e =
      e.is (holds_ordered b S h) ∙ ap (λ (rs : List Row). bound row_key (3 ∷ fold p, id) rs) h.lies.rows
      ∙ set_bound relationship_rows relationship_rows_lem (fold p, id) S

  -- TYPES: from the least key of the Defaults to that of the relationships
  module _ (f t : ℕ) (ef : Bounded b (key_in 1 [] 0 []) f) (et : Bounded b (key_in 3 [] 0 []) t) where
    least : (rs : List Relationship) → bound key_of_relationship ([], []) rs ≡ 0
    unfolding first_where
    least [] = refl
    least (r ∷ rs) = rw (none_before (key_of_relationship r))

    types_rows : slice f t (rows_of b) ≡ D S ++ O S
    unfolding rows_for other_rows
    types_rows =
        let X = D S ++ O S in
        let a : f ≡ length (I S) + 0 = item_count b S h [] f ef ∙ sym (add-zero _ ∙ length-map S.items item_row) in
        let c : t ≡ length (I S) + length X = relationship_bound [] [] t et ∙ ap₂ ◌+◌ (length-append (I S) X) (least S.relationships) ∙ add-zero _ in
        let e : rows_of b ≡ I S ++ (X ++ R S) = h.lies.rows ∙ ap (λ (l : List Row). I S ++ l) (sym (append_assoc (D S) (O S) (R S))) in
        rw (a, c, e) (slice_append (I S) (X ++ R S) 0 (length X) ∙ take-append_seam X (R S))

    types_lines : row_lines f t (rows_of b) ≡ flat_map default_line S.defaults ++ flat_map override_line S.overrides
    types_lines =
        ap (flat_map line_of) types_rows
        ∙ flat_map_append line_of (D S) (O S)
        ∙ ap₂ ◌++◌ (flat_map_map default_row line_of default_line default_row_line S.defaults) (flat_map_map override_row line_of override_line override_row_line S.overrides)

    types_stream_lem : stream_of b f t (ascii "<Types xmlns=\"http://schemas.openxmlformats.org/package/2006/content-types\">\n") (ascii "</Types>\n") ≡ types_text S
    unfolding types_text
    types_stream_lem =
        ap (λ (l : Bytes). declaration ++ (ascii "<Types xmlns=\"http://schemas.openxmlformats.org/package/2006/content-types\">\n" ++ l))
        (ap (λ (l : Bytes). l ++ ascii "</Types>\n") types_lines ∙ append_assoc (flat_map default_line S.defaults) (flat_map override_line S.overrides) (ascii "</Types>\n"))

  -- RELATIONSHIPS of the source s: from its first key to one behind all its ids
  module _ (s : Bytes) (f t : ℕ) (ef : Bounded b (key_in 3 s 0 []) f) (et : Bounded b (key_in 3 s 0 (tilde ∷ [])) t) where
    source_rows : slice f t (rows_of b) ≡ map relationship_row (of_source s S.relationships)
    unfolding rows_for other_rows
    source_rows =
        let F = I S ++ (D S ++ O S) in
        let m = bound key_of_relationship (fold s, []) S.relationships in
        let n = bound key_of_relationship (fold s, tilde ∷ []) S.relationships in
        let e : rows_of b ≡ F ++ R S = h.lies.rows ∙ ap (λ (l : List Row). I S ++ l) (sym (append_assoc (D S) (O S) (R S))) ∙ sym (append_assoc (I S) (D S ++ O S) (R S)) in
        rw (relationship_bound s [] f ef, relationship_bound s (tilde ∷ []) t et, e)
        (slice_append F (R S) m n ∙ slice_map relationship_row m n S.relationships
        ∙ ap (map relationship_row) (sym (source_between s S.relationships h.good.relationships.sorted h.good.relationships.fielded)))

    source_stream : stream_of b f t (ascii "<Relationships xmlns=\"http://schemas.openxmlformats.org/package/2006/relationships\">\n") (ascii "</Relationships>\n") ≡ relationships_text s S
    unfolding relationships_text
    source_stream =
        ap (λ (l : Bytes). declaration ++ (ascii "<Relationships xmlns=\"http://schemas.openxmlformats.org/package/2006/relationships\">\n" ++ (l ++ ascii "</Relationships>\n")))
        (ap (flat_map line_of) source_rows ∙ flat_map_map relationship_row line_of relationship_line relationship_row_line (of_source s S.relationships))

-- EACH WAY OUT
module _ (b : List ℕ) (o : Open b) where
  pub types_written : (f t : ℕ) → Bounded b (key_in 1 [] 0 []) f → Bounded b (key_in 3 [] 0 []) t → (out : Bytes) (a : Answer)
      → Answered b f t (ascii "<Types xmlns=\"http://schemas.openxmlformats.org/package/2006/content-types\">\n") (ascii "</Types>\n") out a → Ran (Prints WriteTypes out) b a b
  unfolding printed
  types_written f t ef et out a x = stream_ran b o WriteTypes refl out f t _ _ a x (λ S h. rw (types_stream_lem b S h f t ef et))

  -- the source is refused
  pub relationships_refused : (s out : Bytes) (r : Refusal) → number r ≡ source_refusal s
      → Ran (Prints (WriteRelationships s) out) b (refusing 1 r out) b
  unfolding printed
  relationships_refused s out r e =
      text_refused b o (WriteRelationships s) refl out (number r) (subst Numbered (sym e) (source_field_numbered s))
      (λ S h. rw (← e, ne_eqb (number r) 0 (number_some r)))

  -- or passes
  pub relationships_written : (s out : Bytes) → 0 ≡ source_refusal s
      → (f t : ℕ) → Bounded b (key_in 3 s 0 []) f → Bounded b (key_in 3 s 0 (tilde ∷ [])) t → (a : Answer)
      → Answered b f t (ascii "<Relationships xmlns=\"http://schemas.openxmlformats.org/package/2006/relationships\">\n") (ascii "</Relationships>\n") out a
      → Ran (Prints (WriteRelationships s) out) b a b
  unfolding printed
  relationships_written s out e f t ef et a x =
      stream_ran b o (WriteRelationships s) refl out f t _ _ a x (λ S h. rw (← e, source_stream b S h s f t ef et))
