-- Entries and streams as our writer spells them (each tag on a line of its own, an entry an empty tag), read again.
-- Assumes nothing.
use Prim.Native.Nat.{ℕ, suc}
use mathlib.Core.Path.{◌≡◌, refl, sym, ap, ◌∙◌}
use mathlib.Core.Bool.{true, false, not, false≢true}
use mathlib.Core.List.{List, [], ◌∷◌, ◌++◌, map}
use mathlib.Core.Option.{some}
use lib.Dec.{eqb}
use lib.ListN.{length, get_or}
use borrow.Author.Tests.{eq-eqb, ne_eqb}
use Rattle.chars.specs.Bytes.{ascii, colon, letter, digit, member}
use Rattle.chars.specs.Lists.{every, first_passing, lacks, same, begins, tiled}
use Rattle.chars.specs.declared.search.Alphabet.TheVariants.{Id}
use Rattle.chars.proofs.FirstBytes.{index_none}
use Rattle.chars.proofs.Searches.{every_imp}
use Rattle.chars.proofs.UnitBytes.{but, class_but}
use Rattle.markup.specs.Marks.{On, name_first, prefixed, value_unit, value_byte, unquoted}
use Rattle.markup.specs.Tags.{attribute_named, own, distinct, Tag, Begun, start_tag, end_tag}
use Rattle.markup.specs.Elements.{gaps, between}
use Rattle.markup.specs.Entries.{Entry, entry_of, root_name, namespace}
use Rattle.markup.specs.Streams.{Says, where_on, with_entry, piece_then, entries_in, is_root, closed_root, root_of, root_at}
use Rattle.markup.specs.Streams.{xml_declaration, after_declaration, said}
use Rattle.markup.specs.declared.entries.Kind.{Kind}
use Rattle.markup.specs.declared.entries.Kind.TheVariants.{Types, Relationships}
use Rattle.markup.proofs.WrittenTags.{Plain, Raw, raw, meant, Fine, AllFine, written_all, first_some, tag_name, empty_written, open_written}

-- a name of that kind has no prefix
plain_unprefixed : (name : List ℕ) → Plain name → prefixed name ≡ false
unfolding lacks member letter digit
plain_unprefixed name p =
    ap not (eq-eqb _ _ (index_none colon name (every_imp (member Id) (but colon) (class_but (member Id) colon refl) name p.bytes)))

-- behind a line feed a start tag: no comment
unbang : (x : ℕ) → name_first x ≡ true → eqb x 33 ≡ false
unfolding letter
unbang x e = ne_eqb x 33 (λ z. false≢true (ap name_first (sym z) ∙ e))

between_tags : (x : ℕ) (u : List ℕ) → name_first x ≡ true → between false (10 ∷ 60 ∷ x ∷ u) ≡ On (60 ∷ x ∷ u)
unfolding gaps first_passing begins same
between_tags x u e = rw (unbang x e)

piece_written : (K : Kind) (k : ℕ) (s : List ℕ) → name_first (get_or s 0 0) ≡ true →
    entries_in K (suc k) (10 ∷ 60 ∷ s) ≡ piece_then K (λ (u : List ℕ). entries_in K k u) s
unfolding entries_in letter
piece_written K k [] e = absurd (false≢true e)
piece_written K k (x ∷ u) e = rw (between_tags x u e, e)

-- AN ENTRY: an empty tag that makes the entry e
module _
    (K : Kind) (name : List ℕ) (plain : Plain name) (a : Raw) (xs : List Raw) (fine : AllFine (a ∷ xs)) (apart : distinct (map meant (a ∷ xs)) ≡ true) where
  pub entry_written : (e : Entry) → entry_of K (record { name = name; attributes = map meant (a ∷ xs); empty = true }) ≡ some e →
      (k : ℕ) (rest : List ℕ) →
      entries_in K (suc k) (10 ∷ 60 ∷ (name ++ written_all (a ∷ xs) (47 ∷ 62 ∷ rest))) ≡ with_entry e (entries_in K k rest)
  entry_written e is k rest =
      let t : List ℕ = 47 ∷ 62 ∷ rest in
      piece_written K k (name ++ written_all (a ∷ xs) t) (first_some name (written_all (a ∷ xs) t) plain.begins)
      ∙ rw (tag_name name plain a xs fine apart t, plain_unprefixed name plain, empty_written name plain a xs fine apart rest, is)

-- A STREAM: the declaration, the root's tag, its content, the root's end
abbrev pub root_end : Kind → List ℕ
root_end K = ascii "</" ++ (root_name K ++ ascii ">\n")

abbrev pub root_raw : Kind → Raw
root_raw K = raw (ascii "xmlns") (namespace K)

abbrev pub stream_text : Kind → List ℕ → List ℕ
stream_text K content = xml_declaration ++ (10 ∷ 60 ∷ (root_name K ++ written_all (root_raw K ∷ []) (62 ∷ content)))

-- the root's content is over where its end tag stands
pub end_written : (K : Kind) (k : ℕ) → entries_in K (suc k) (10 ∷ root_end K) ≡ Says [] (root_end K)
unfolding entries_in gaps first_passing begins same letter
end_written Types k = refl
end_written Relationships k = refl

root_plain : (K : Kind) → Plain (root_name K)
unfolding every member letter digit
root_plain Types = record { begins = refl; bytes = refl }
root_plain Relationships = record { begins = refl; bytes = refl }

root_fine : (K : Kind) → Fine (root_raw K)
unfolding every member letter digit tiled value_unit
root_fine Types = record { name = record { begins = refl; bytes = refl }; unmarked = refl; quotable = refl }
root_fine Relationships = record { name = record { begins = refl; bytes = refl }; unmarked = refl; quotable = refl }

abbrev root_tag : Kind → Tag
root_tag K = record { name = root_name K; attributes = meant (root_raw K) ∷ []; empty = false }

root_tag_lem : (K : Kind) (content : List ℕ) → start_tag (root_name K ++ written_all (root_raw K ∷ []) (62 ∷ content)) ≡ Begun (root_tag K) content
unfolding distinct attribute_named
root_tag_lem K content = open_written (root_name K) (root_plain K) (root_raw K) [] (root_fine K, tt) refl content

root_is : (K : Kind) → is_root K (root_tag K) ≡ true
unfolding same attribute_named own lacks first_passing unquoted value_unit value_byte
root_is Types = refl
root_is Relationships = refl

root_closed : (K : Kind) (es : List Entry) → closed_root (root_name K) (Says es (root_end K)) ≡ Says es []
unfolding end_tag begins same first_passing gaps
root_closed Types es = refl
root_closed Relationships es = refl

after_declaration_lem : (t : List ℕ) → after_declaration (xml_declaration ++ t) ≡ t
unfolding begins same
after_declaration_lem t = refl

root_begun : (K : Kind) (s : List ℕ) → name_first (get_or s 0 0) ≡ true → where_on (between false (10 ∷ 60 ∷ s)) (root_at K) ≡ root_of K (start_tag s)
unfolding letter
root_begun K [] e = absurd (false≢true e)
root_begun K (x ∷ u) e = rw (between_tags x u e, e)

pub stream_written : (K : Kind) (content : List ℕ) (es : List Entry) → entries_in K (length content) content ≡ Says es (root_end K) →
    said K (stream_text K content) ≡ Says es []
unfolding said
stream_written K content es h =
    let t : List ℕ = written_all (root_raw K ∷ []) (62 ∷ content) in
    ap (λ (s : List ℕ). where_on (between false s) (root_at K)) (after_declaration_lem (10 ∷ 60 ∷ (root_name K ++ t)))
    ∙ root_begun K (root_name K ++ t) (first_some (root_name K) t (root_plain K).begins)
    ∙ rw (root_tag_lem K content, root_is K, h) (root_closed K es)
