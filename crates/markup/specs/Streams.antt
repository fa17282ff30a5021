-- What a types stream or a stream of relationships says, and when it is accepted (request 5 of document 02).
-- Assumes nothing.
use Rattle.std.specs.Prelude.{ℕ, zero, suc, ◌-◌, Bool, true, false, ◌&&◌, cond, List, [], ◌∷◌, eqb, length, drop}
use Rattle.std.proofs.Math.Option.{Option, none, some}
use Rattle.chars.specs.Bytes.{ascii}
use Rattle.chars.specs.Lists.{same, begins}
use Rattle.markup.specs.Marks.{Outcome, On, Not, malformed, and_then, name_at, prefixed}
use Rattle.markup.specs.Tags.{Tag, Started, Begun, NoTag, start_tag, end_tag, opens}
use Rattle.markup.specs.Elements.{between, deepest, held, element, content}
use Rattle.markup.specs.Entries.{Entry, value_of, own_count, entry_of, root_name, namespace}
use Rattle.markup.specs.declared.entries.Kind.{Kind}

-- its entries in their order, and what remains behind them; or a refusal
pub data Said : Type 0 where
  Says : (entries : List Entry) (rest : List ℕ) → Said
  Unread : (number : ℕ) → Said

abbrev pub where_on : Outcome → (List ℕ → Said) → Said
where_on (On s) f = f s
where_on (Not n) f = Unread n

abbrev pub choose : Bool → Said → Said → Said
choose true a b = a
choose false a b = b

abbrev pub with_entry : Entry → Said → Said
with_entry e (Says es s) = Says (e ∷ es) s
with_entry e (Unread n) = Unread n

-- THE ROOT'S CONTENT. "elements of prefixed names are .. passed over with all they hold": one at depth 2, from behind its `<` on
abbrev pub passed : List ℕ → Outcome
passed s = element (length s) (deepest - 2) s

-- "An entry may be a tag pair": what follows its start tag
abbrev pub entry_held : Tag → List ℕ → Outcome
entry_held t s = held t (λ (u : List ℕ). content (length u) (deepest - 2) false u) s

-- "Elsewhere an element that document 01 doesn't write in that place is malformed": f reads on behind the entry
abbrev pub judged : (List ℕ → Said) → Tag → List ℕ → Option Entry → Said
judged f t s none = Unread malformed
judged f t s (some e) = with_entry e (where_on (entry_held t s) f)

abbrev pub entry_then : Kind → (List ℕ → Said) → Started → Said
entry_then K f (Begun t s) = judged f t s (entry_of K t)
entry_then K f NoTag = Unread malformed

-- behind a `<`: an element that is passed over, or an entry; f reads on behind it
abbrev pub piece_then : Kind → (List ℕ → Said) → List ℕ → Said
piece_then K f s = choose (prefixed (name_at s)) (where_on (passed s) f) (entry_then K f (start_tag s))

-- k bounds the pieces: as many as there are bytes always suffice
unfoldable pub entries_in : Kind → ℕ → List ℕ → Said
entries_in K zero s = Says [] s
entries_in K (suc k) s =
    where_on (between false s) (λ (t : List ℕ). choose (opens t) (piece_then K (λ (u : List ℕ). entries_in K k u) (drop 1 t)) (Says [] t))

-- THE ROOT: "one root in our namespace, declared as default"
abbrev pub is_namespace : Kind → Option (List ℕ) → Bool
is_namespace K none = false
is_namespace K (some v) = same v (namespace K)

abbrev pub is_root : Kind → Tag → Bool
is_root K t = same t.name (root_name K) && eqb (own_count t) 1 && is_namespace K (value_of (ascii "xmlns") t)

-- behind the root stand blanks and comments, and the stream ends
abbrev pub ended : List Entry → Outcome → Said
ended es (On []) = Says es []
ended es (On (b ∷ s)) = Unread malformed
ended es (Not n) = Unread n

abbrev pub closed_root : List ℕ → Said → Said
closed_root name (Says es s) = ended es (and_then (end_tag name s) (between false))
closed_root name (Unread n) = Unread n

-- "the root an empty tag"
abbrev pub root_held : Kind → Tag → List ℕ → Said
root_held K t s = choose t.empty (ended [] (between false s)) (closed_root t.name (entries_in K (length s) s))

abbrev pub root_of : Kind → Started → Said
root_of K (Begun t s) = choose (is_root K t) (root_held K t s) (Unread malformed)
root_of K NoTag = Unread malformed

abbrev pub root_at : Kind → List ℕ → Said
root_at K s = choose (opens s) (root_of K (start_tag (drop 1 s))) (Unread malformed)

-- THE STREAM. "our declaration byte for byte at the very start or none"
abbrev pub xml_declaration : List ℕ
xml_declaration = ascii "<?xml version=\"1.0\" encoding=\"UTF-8\"?>"

abbrev pub after_declaration : List ℕ → List ℕ
after_declaration s = cond (begins xml_declaration s) (drop (length xml_declaration) s) s

-- from left to right: the first byte with which no accepted stream goes on, or the first start tag of depth 17, decides
unfoldable pub said : Kind → List ℕ → Said
said K s = where_on (between false (after_declaration s)) (root_at K)

abbrev pub entries_of : Said → List Entry
entries_of (Says es s) = es
entries_of (Unread n) = []

-- 0, "20 where .., else 19 where it isn't accepted"
abbrev pub form_of : Said → ℕ
form_of (Says es s) = 0
form_of (Unread n) = n
