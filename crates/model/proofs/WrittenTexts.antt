-- A text that is written for a set says the entries of that set, one after the other (request 5 of document 02).
-- Assumes nothing.
use Prim.Native.Nat.{ℕ, suc, ◌+◌, ◌-◌, ◌≤◌, ◌<◌}
use mathlib.Core.Path.{◌≡◌, refl, sym, ap, ◌∙◌}
use mathlib.Core.List.{List, [], ◌∷◌, ◌++◌, map, flat_map, append_assoc, append-nil}
use native.Mathlib.Nat.{zero-add}
use native.Mathlib.Omega.{arith}
use lib.ListN.{length, length-append}
use Rattle.markup.specs.Entries.{Entry}
use Rattle.markup.specs.Streams.{Said, Says, Unread, with_entry, entries_in, said}
use Rattle.markup.specs.declared.entries.Kind.{Kind}
use Rattle.markup.specs.declared.entries.Kind.TheVariants.{Types, Relationships}
use Rattle.markup.proofs.WrittenTags.{written_all}
use Rattle.markup.proofs.WrittenStreams.{root_end, stream_text, end_written, stream_written}
use Rattle.model.specs.Sets.{Bytes, Each}
use Rattle.model.specs.Package.{State, Default, Override, Relationship}
use Rattle.model.specs.Texts.{default_line, override_line, relationship_line, types_text, of_source, relationships_text}
use Rattle.model.proofs.WrittenLines.{says_default, says_override, says_relationship}

-- several entries, and then what follows
abbrev with_entries : List Entry → Said → Said
with_entries es (Says fs s) = Says (es ++ fs) s
with_entries es (Unread n) = Unread n

none_more : (d : Said) → with_entries [] d ≡ d
none_more (Says fs s) = refl
none_more (Unread n) = refl

one_more : (e : Entry) (es : List Entry) (d : Said) → with_entry e (with_entries es d) ≡ with_entries (e ∷ es) d
one_more e es (Says fs s) = refl
one_more e es (Unread n) = refl

-- LINES, each of which is read as an entry
module _ {E : Type 0} (K : Kind) (line : E → Bytes) (says : E → Entry) where
  abbrev pub Read : E → Type 0
  Read x = (k : ℕ) (rest : Bytes) → entries_in K (suc k) (10 ∷ (line x ++ rest)) ≡ with_entry (says x) (entries_in K k (10 ∷ rest))

  lines_read : (xs : List E) → Each Read xs → (k : ℕ) (rest : Bytes) →
      entries_in K (length xs + k) (10 ∷ (flat_map line xs ++ rest)) ≡ with_entries (map says xs) (entries_in K k (10 ∷ rest))
  unfolding flat_map
  lines_read [] h k rest = ap (λ (n : ℕ). entries_in K n (10 ∷ rest)) (zero-add k) ∙ sym (none_more (entries_in K k (10 ∷ rest)))
  lines_read (x ∷ xs) h k rest =
      let n : suc (length xs) + k ≡ suc (length xs + k) = omega arith in
      rw (n, append_assoc (line x) (flat_map line xs) rest)
      (h.0 (length xs + k) (flat_map line xs ++ rest) ∙ ap (with_entry (says x)) (lines_read xs h.1 k rest)
      ∙ one_more (says x) (map says xs) (entries_in K k (10 ∷ rest)))

  lines_long : ((x : E) → 0 < length (line x)) → (xs : List E) → length xs ≤ length (flat_map line xs)
  unfolding flat_map
  lines_long h [] = omega arith
  lines_long h (x ∷ xs) = omega (arith, h x, lines_long h xs, length-append (line x) (flat_map line xs))

-- THE TYPES STREAM
module _ (S : State) where
  types_content : Bytes
  types_content = 10 ∷ (flat_map default_line S.defaults ++ (flat_map override_line S.overrides ++ root_end Types))

  types_text_lem : types_text S ≡ stream_text Types types_content
  unfolding types_text written_all types_content
  types_text_lem = refl

  pub types_said_lem : Each (Read Types default_line says_default) S.defaults → Each (Read Types override_line says_override) S.overrides →
      said Types (types_text S) ≡ Says (map says_default S.defaults ++ map says_override S.overrides) []
  unfolding types_content
  types_said_lem f g = rw types_text_lem (stream_written Types types_content _ whole)
    where
      ds : List Default
      ds = S.defaults

      os : List Override
      os = S.overrides

      left : ℕ
      left = length types_content - length ds - length os - 1

      enough : length types_content ≡ length ds + (length os + suc left)
      enough =
          let b : Bytes = flat_map override_line os ++ root_end Types in
          omega (
            arith,
            length-append (flat_map default_line ds) b,
            length-append (flat_map override_line os) (root_end Types),
            lines_long Types default_line says_default (λ d. omega arith) ds,
            lines_long Types override_line says_override (λ o. omega arith) os,
          )

      whole : entries_in Types (length types_content) types_content ≡ Says (map says_default ds ++ map says_override os) (root_end Types)
      whole =
          ap (λ (n : ℕ). entries_in Types n types_content) enough
          ∙ lines_read Types default_line says_default ds f (length os + suc left) (flat_map override_line os ++ root_end Types)
          ∙ ap (with_entries (map says_default ds))
          (lines_read Types override_line says_override os g (suc left) (root_end Types) ∙ ap (with_entries (map says_override os)) (end_written Types left))
          ∙ ap (λ (l : List Entry). Says (map says_default ds ++ l) (root_end Types)) (append-nil (map says_override os))

-- THE STREAM OF A SOURCE'S RELATIONSHIPS
module _ (source : Bytes) (S : State) where
  own : List Relationship
  own = of_source source S.relationships

  relationships_content : Bytes
  relationships_content = 10 ∷ (flat_map relationship_line own ++ root_end Relationships)

  relationships_text_lem : relationships_text source S ≡ stream_text Relationships relationships_content
  unfolding relationships_text written_all relationships_content own
  relationships_text_lem = refl

  pub relationships_said_lem : Each (Read Relationships relationship_line says_relationship) (of_source source S.relationships) →
      said Relationships (relationships_text source S) ≡ Says (map says_relationship (of_source source S.relationships)) []
  unfolding relationships_content own
  relationships_said_lem f = rw relationships_text_lem (stream_written Relationships relationships_content _ whole)
    where
      left : ℕ
      left = length relationships_content - length own - 1

      enough : length relationships_content ≡ length own + suc left
      enough = omega (
        arith,
        length-append (flat_map relationship_line own) (root_end Relationships),
        lines_long Relationships relationship_line says_relationship (λ r. omega arith) own,
      )

      whole : entries_in Relationships (length relationships_content) relationships_content ≡ Says (map says_relationship own) (root_end Relationships)
      whole =
          ap (λ (n : ℕ). entries_in Relationships n relationships_content) enough
          ∙ lines_read Relationships relationship_line says_relationship own f (suc left) (root_end Relationships)
          ∙ ap (with_entries (map says_relationship own)) (end_written Relationships left)
          ∙ ap (λ (l : List Entry). Says l (root_end Relationships)) (append-nil (map says_relationship own))
