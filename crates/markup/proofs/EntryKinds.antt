-- A types stream says Defaults and Overrides alone, a stream of relationships those alone.
-- Assumes nothing.
use Prim.Native.Nat.{ℕ, zero, suc, ◌+◌}
use mathlib.Core.Bool.{Bool, true, false, cond}
use mathlib.Core.List.{List, [], ◌∷◌}
use mathlib.Core.Option.{Option, none, some}
use lib.Dec.{eqb}
use lib.ListN.{length, drop}
use Rattle.chars.specs.Bytes.{ascii}
use Rattle.chars.specs.Lists.{same}
use Rattle.markup.specs.Marks.{Outcome, On, Not, malformed, and_then, name_at, prefixed}
use Rattle.markup.specs.Tags.{Tag, Started, Begun, NoTag, start_tag, end_tag, opens}
use Rattle.markup.specs.Elements.{between}
use Rattle.markup.specs.Entries.{Entry, SaysDefault, SaysOverride, SaysRelationship, value_of, own_count, of_two, of_three, mode_of, given}
use Rattle.markup.specs.Entries.{types_entry, relationship_entry, entry_of}
use Rattle.markup.specs.Streams.{Said, Says, Unread, where_on, choose, with_entry, passed, entry_held, judged, entry_then, entries_in}
use Rattle.markup.specs.Streams.{ended, closed_root, is_root, root_of, root_at, after_declaration, said, entries_of}
use Rattle.markup.specs.declared.entries.Kind.{Kind}
use Rattle.markup.specs.declared.entries.Kind.TheVariants.{Types, Relationships}

abbrev pub OfKind : Kind → Entry → Type 0
OfKind Types (SaysDefault extension type) = Unit {0}
OfKind Types (SaysOverride name type) = Unit {0}
OfKind Types (SaysRelationship id type mode target) = ⊥
OfKind Relationships (SaysDefault extension type) = ⊥
OfKind Relationships (SaysOverride name type) = ⊥
OfKind Relationships (SaysRelationship id type mode target) = Unit {0}

abbrev pub AllOf : Kind → List Entry → Type 0
AllOf K [] = Unit {0}
AllOf K (e ∷ es) = OfKind K e × AllOf K es

-- THE ENTRY OF A TAG
unfoldable OptionOf : Kind → Option Entry → Type 0
OptionOf K none = Unit {0}
OptionOf K (some e) = OfKind K e

none_of : (K : Kind) → OptionOf K none
unfolding OptionOf
none_of K = tt

of_cond : (K : Kind) (b : Bool) (x y : Option Entry) → OptionOf K x → OptionOf K y → OptionOf K (cond b x y)
of_cond K true x y p q = p
of_cond K false x y p q = q

of_two_lem : (K : Kind) (f : List ℕ → List ℕ → Entry) → ((u v : List ℕ) → OfKind K (f u v)) → (n : ℕ) (u v : Option (List ℕ)) → OptionOf K (of_two f n u v)
unfolding OptionOf
of_two_lem K f h n none v = tt
of_two_lem K f h n (some u) none = tt
of_two_lem K f h n (some u) (some v) = of_cond K (eqb n 2) (some (f u v)) none (h u v) tt

of_three_lem : (K : Kind) (f : List ℕ → List ℕ → List ℕ → Entry) → ((u v w : List ℕ) → OfKind K (f u v w)) → (b : Bool) (u v w : Option (List ℕ)) →
    OptionOf K (of_three f b u v w)
unfolding OptionOf
of_three_lem K f h b none v w = tt
of_three_lem K f h b (some u) none w = tt
of_three_lem K f h b (some u) (some v) none = tt
of_three_lem K f h b (some u) (some v) (some w) = of_cond K b (some (f u v w)) none (h u v w) tt

tag_of : (K : Kind) (t : Tag) → OptionOf K (entry_of K t)
unfolding types_entry relationship_entry
tag_of Types t =
    of_cond Types (same t.name (ascii "Default")) _ _
    (of_two_lem Types SaysDefault (λ u v. tt) (own_count t) (value_of (ascii "Extension") t) (value_of (ascii "ContentType") t))
    (of_cond Types (same t.name (ascii "Override")) _ none
    (of_two_lem Types SaysOverride (λ u v. tt) (own_count t) (value_of (ascii "PartName") t) (value_of (ascii "ContentType") t)) (none_of Types))
tag_of Relationships t =
    of_cond Relationships (same t.name (ascii "Relationship")) _ none
    (of_three_lem Relationships (λ (id type target : List ℕ). SaysRelationship id type (mode_of (value_of (ascii "TargetMode") t)) target) (λ u v w. tt)
    (eqb (own_count t) (3 + given (value_of (ascii "TargetMode") t))) (value_of (ascii "Id") t) (value_of (ascii "Type") t) (value_of (ascii "Target") t))
    (none_of Relationships)

-- WHAT IS SAID, piece by piece
unfoldable SaidOf : Kind → Said → Type 0
SaidOf K (Says es s) = AllOf K es
SaidOf K (Unread n) = Unit {0}

module _ (K : Kind) where
  unread_of : (n : ℕ) → SaidOf K (Unread n)
  unfolding SaidOf
  unread_of n = tt

  nothing_of : (s : List ℕ) → SaidOf K (Says [] s)
  unfolding SaidOf
  nothing_of s = tt

  of_where : (o : Outcome) (f : List ℕ → Said) → ((s : List ℕ) → SaidOf K (f s)) → SaidOf K (where_on o f)
  of_where (On s) f h = h s
  of_where (Not n) f h = unread_of n

  of_choose : (b : Bool) (x y : Said) → SaidOf K x → SaidOf K y → SaidOf K (choose b x y)
  of_choose true x y p q = p
  of_choose false x y p q = q

  of_with : (e : Entry) → OfKind K e → (d : Said) → SaidOf K d → SaidOf K (with_entry e d)
  unfolding SaidOf
  of_with e p (Says es s) q = (p, q)
  of_with e p (Unread n) q = tt

  of_judged : (f : List ℕ → Said) → ((s : List ℕ) → SaidOf K (f s)) → (t : Tag) (s : List ℕ) (o : Option Entry) → OptionOf K o → SaidOf K (judged f t s o)
  unfolding OptionOf
  of_judged f h t s none p = unread_of malformed
  of_judged f h t s (some e) p = of_with e p _ (of_where (entry_held t s) f h)

  of_started : (f : List ℕ → Said) → ((s : List ℕ) → SaidOf K (f s)) → (x : Started) → SaidOf K (entry_then K f x)
  of_started f h (Begun t s) = of_judged f h t s (entry_of K t) (tag_of K t)
  of_started f h NoTag = unread_of malformed

  of_entries : (k : ℕ) (s : List ℕ) → SaidOf K (entries_in K k s)
  unfolding entries_in
  of_entries zero s = nothing_of s
  of_entries (suc k) s =
      of_where (between false s) _ (λ t. of_choose (opens t) _ _
      (of_choose (prefixed (name_at (drop 1 t))) _ _ (of_where (passed (drop 1 t)) _ (λ u. of_entries k u))
      (of_started _ (λ u. of_entries k u) (start_tag (drop 1 t))))
      (nothing_of t))

  of_ended : (es : List Entry) → AllOf K es → (o : Outcome) → SaidOf K (ended es o)
  unfolding SaidOf
  of_ended es p (On []) = p
  of_ended es p (On (b ∷ s)) = tt
  of_ended es p (Not n) = tt

  of_closed : (name : List ℕ) (d : Said) → SaidOf K d → SaidOf K (closed_root name d)
  unfolding SaidOf
  of_closed name (Says es s) p = of_ended es p (and_then (end_tag name s) (between false))
  of_closed name (Unread n) p = tt

  of_root_lem : (x : Started) → SaidOf K (root_of K x)
  of_root_lem (Begun t s) =
      of_choose (is_root K t) _ _ (of_choose t.empty _ _ (of_ended [] tt (between false s)) (of_closed t.name _ (of_entries (length s) s))) (unread_of malformed)
  of_root_lem NoTag = unread_of malformed

  of_said : (s : List ℕ) → SaidOf K (said K s)
  unfolding said
  of_said s = of_where (between false (after_declaration s)) (root_at K) (λ t. of_choose (opens t) _ _ (of_root_lem (start_tag (drop 1 t))) (unread_of malformed))

  of_list : (d : Said) → SaidOf K d → AllOf K (entries_of d)
  unfolding SaidOf
  of_list (Says es s) p = p
  of_list (Unread n) p = tt

  pub said_of : (s : List ℕ) → AllOf K (entries_of (said K s))
  said_of s = of_list (said K s) (of_said s)
