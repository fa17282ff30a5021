-- "20 where all before a start tag of depth 17 .. begins an accepted stream": where that is so, a stream gives 20.
-- Assumes nothing.
use Prim.Native.Nat.{ℕ, zero, suc, ◌+◌, ◌-◌, ◌≤◌, ◌<◌}
use native.Mathlib.Omega.{arith}
use mathlib.Core.Path.{◌≡◌, refl, sym, ap, ◌∙◌}
use mathlib.Core.Bool.{Bool, true, false}
use mathlib.Core.List.{List, [], ◌∷◌, ◌++◌, flat_map}
use lib.Dec.{leb}
use lib.ListN.{length, get_or, drop, length-append, length-drop}
use lib.Seq.{drop-append-le}
use borrow.Author.Tests.{leb-true, leb-false}
use Rattle.chars.specs.Bytes.{letter}
use Rattle.chars.specs.Lists.{all}
use Rattle.markup.specs.Marks.{Outcome, On, Not, either, and_then, name_first}
use Rattle.markup.specs.Tags.{Tag, Started, Begun, NoTag, start_tag, end_tag, opens}
use Rattle.markup.specs.Elements.{between}
use Rattle.markup.specs.Streams.{entries_in, is_root, after_declaration, said, form_of}
use Rattle.markup.specs.Depth.{end_tags, is_name, DeepMeansTwenty}
use Rattle.markup.specs.declared.entries.Kind.{Kind}
use Rattle.markup.proofs.FrontTags.{onward, start_front}
use Rattle.markup.proofs.EndTags.{name_bytes, name_bytes_lem, start_named}
use Rattle.markup.proofs.FrontGaps.{Both, and_on, empty_comment, gaps_empty}
use Rattle.markup.proofs.Remains.{Remains, remains_then, remains_drop, gaps_remain}
use Rattle.markup.proofs.Contents.{opens_front, gap_on, Farther, farther_on, tag_end_front}
use Rattle.markup.proofs.Openings.{first_not_lem}
use Rattle.markup.proofs.PiecesTwenty.{outcome_of, piece_end, entries_end, pieces_on, entries_step, piece_remains}
use Rattle.markup.proofs.StreamsTwenty.{Opening, opening}
use Rattle.markup.proofs.RootsTwenty.{stop_end, closed_end, root_end, root_on, said_outcome, form_not, Accepts, form_accepts, declaration_front}
use Rattle.markup.proofs.Crossings.{gap_ends, opens_ends, end_next, Crossed, gap_crosses}
use Rattle.markup.proofs.StreamCrossings.{EntriesTwenty, entries_cross}

-- WHAT REMAINS behind the pieces is the end
entries_remain : (K : Kind) (k : ℕ) (s t : List ℕ) → entries_end K k s ≡ On t → Remains s t
unfolding entries_in
entries_remain K zero s t e = let d : s ≡ t = cc in record { read = 0; is = sym d }
entries_remain K (suc k) s t e =
    remains_then s w.mid t (gaps_remain (length s) false s w.mid w.first) (go (opens w.mid) w.then (λ (u : List ℕ). entries_remain K k u t))
  where
    w : Both (between false s) (pieces_on K k) t
    w = and_on (between false s) (pieces_on K k) t (sym (entries_step K k s) ∙ e)

    more : List ℕ → Outcome
    more u = entries_end K k u

    go : (b : Bool) → either b (and_then (piece_end K (drop 1 w.mid)) more) (On w.mid) ≡ On t → ((u : List ℕ) → entries_end K k u ≡ On t → Remains u t)
        → Remains w.mid t
    go true f h =
        let v : Both (piece_end K (drop 1 w.mid)) more t = and_on (piece_end K (drop 1 w.mid)) more t f in
        remains_then w.mid (drop 1 w.mid) t (remains_drop 1 w.mid)
        (remains_then (drop 1 w.mid) v.mid t (piece_remains K (drop 1 w.mid) v.mid v.first).0 (h v.mid v.then))
    go false f h = let d : w.mid ≡ t = cc in record { read = 0; is = sym d }

-- a rest that is as long as z ends in z
record EndsIn (z m : List ℕ) : Type 0 where
  front : List ℕ
  is : m ≡ front ++ z

ends_in_lem : (s z m : List ℕ) → Remains (s ++ z) m → length z ≤ length m → 0 < length z → EndsIn z m
ends_in_lem s z m w l n =
    let a : length m ≡ length (s ++ z) - w.read = ap length w.is ∙ length-drop w.read (s ++ z) in
    let b : w.read ≤ length s = omega (arith, length-append s z) in
    record { front = drop w.read s; is = w.is ∙ drop-append-le w.read s z b }

stop_on : (o : Outcome) (t : List ℕ) → stop_end o ≡ On t → o ≡ On []
stop_on (On []) t e = refl
stop_on (On (b ∷ s)) t e = absurd (let z : ◌≡◌ {A = ℕ} 0 1 = cc in omega arith)
stop_on (Not n) t e = absurd (let z : ◌≡◌ {A = ℕ} 0 1 = cc in omega arith)

ends_none : (ns : List (List ℕ)) → end_tags ns ≡ [] → length ns ≡ 0
unfolding flat_map
ends_none [] e = refl
ends_none (n ∷ ns) e = absurd (let z : ◌≡◌ {A = ℕ} 0 1 = cc in omega arith)

module _ (names : List (List ℕ)) (named : all is_name names ≡ true) (tag : List ℕ) (first : name_first (get_or tag 0 0) ≡ true) (sixteen : length names ≡ 16) where
  abbrev z : List ℕ
  z = empty_comment ++ end_tags names

  -- the stream does not end behind the comment
  not_over : (p : List ℕ) → between false (p ++ z) ≡ On [] → ⊥
  not_over p e = go (between false p) refl
    where
      go : (o : Outcome) → between false p ≡ o → ⊥
      go (On []) f =
          let d : On (end_tags names) ≡ On [] = sym (gap_crosses names named tag first false p f) ∙ e in
          let i : end_tags names ≡ [] = cc in
          omega (arith, ends_none names i)
      go (On (b ∷ q)) f =
          let d : On ((b ∷ q) ++ z) ≡ On [] = sym (gap_on false p b q f (drop 1 z)) ∙ e in
          let i : ◌≡◌ {A = ℕ} 0 1 = cc in omega arith
      go (Not n) f =
          let d : Not 19 ≡ On [] = sym (gaps_empty (length p) (length (p ++ z)) false p (end_tags names) n (omega arith) f) ∙ e in
          let i : ◌≡◌ {A = ℕ} 0 1 = cc in omega arith

  -- the root's content stops at its end tag, the last of sixteen
  root_twenty : (K : Kind) (q : List ℕ) (g : Tag) (s rest : List ℕ) → start_tag q ≡ Begun g s → closed_end g (entries_end K (length (s ++ z)) (s ++ z)) ≡ On rest
      → EntriesTwenty names named tag first K s
  root_twenty K q g s rest f e = split (leb (length v.mid) (length z)) refl
    where
      inner : List ℕ → Outcome
      inner u = end_tag g.name u

      w : Both (and_then (entries_end K (length (s ++ z)) (s ++ z)) inner) (between false) []
      w = and_on (and_then (entries_end K (length (s ++ z)) (s ++ z)) inner) (between false) []
          (stop_on (and_then (and_then (entries_end K (length (s ++ z)) (s ++ z)) inner) (between false)) rest e)

      v : Both (entries_end K (length (s ++ z)) (s ++ z)) inner w.mid
      v = and_on (entries_end K (length (s ++ z)) (s ++ z)) inner w.mid w.first

      bytes : name_bytes g.name ≡ true
      bytes = rw (start_named q g s f).0 (name_bytes_lem q)

      behind : Crossed names 15 v.mid (EntriesTwenty names named tag first K s) → EntriesTwenty names named tag first K s
      behind c =
          let a : w.mid ≡ end_tags (drop (c.count + 1) names) =
          end_next c.count names named g.name w.mid bytes (ap (end_tag g.name) (sym c.is) ∙ v.then) in
          let b : On (end_tags (drop (c.count + 1) names)) ≡ On [] =
          sym (ap (between false) a ∙ gap_ends (length (end_tags (drop (c.count + 1) names))) false (drop (c.count + 1) names)) ∙ w.then in
          let i : end_tags (drop (c.count + 1) names) ≡ [] = cc in
          c.deep (omega (arith, ends_none (drop (c.count + 1) names) i, length-drop (c.count + 1) names, c.few))

      split : (b : Bool) → leb (length v.mid) (length z) ≡ b → EntriesTwenty names named tag first K s
      split true y =
          behind (entries_cross names named tag first K (length (s ++ z)) s v.mid (omega arith) v.first (leb-true (length v.mid) (length z) y))
      split false y =
          let l : length z < length v.mid = leb-false (length v.mid) (length z) y in
          let r : EndsIn z v.mid = ends_in_lem s z v.mid (entries_remain K (length (s ++ z)) (s ++ z) v.mid v.first) (omega arith) (omega arith) in
          let u : Farther (end_tag g.name r.front) z w.mid =
          farther_on (end_tag g.name r.front) z w.mid
          (sym (tag_end_front q g s f r.front (drop 1 z) refl) ∙ ap inner (sym r.is) ∙ v.then) in
          absurd (not_over u.mid (ap (between false) (sym u.is) ∙ w.then))

  said_twenty : (K : Kind) (begin rest : List ℕ) → outcome_of (said K (begin ++ z)) ≡ On rest → outcome_of (said K (begin ++ (60 ∷ tag))) ≡ Not 20
  unfolding letter
  said_twenty K begin rest e = go (between false p) refl
    where
      p : List ℕ
      p = after_declaration begin

      cross : and_then (between false (p ++ z)) (root_on K) ≡ On rest
      cross = sym (said_outcome K (begin ++ z) ∙ ap (λ (l : List ℕ). and_then (between false l) (root_on K)) (declaration_front begin (drop 1 z) refl)) ∙ e

      there : outcome_of (said K (begin ++ (60 ∷ tag))) ≡ and_then (between false (p ++ (60 ∷ tag))) (root_on K)
      there =
          said_outcome K (begin ++ (60 ∷ tag))
          ∙ ap (λ (l : List ℕ). and_then (between false l) (root_on K)) (declaration_front begin tag (first_not_lem 63 refl (get_or tag 0 0) first))

      root : (q : List ℕ) → (y : Started) → start_tag q ≡ y → root_end K (onward z y) ≡ On rest → root_end K (onward (60 ∷ tag) y) ≡ Not 20
      root q (Begun g s) f h = held (is_root K g) g.empty h
        where
          held : (i m : Bool) → either i (either m (stop_end (between false (s ++ z)))
              (closed_end g (entries_end K (length (s ++ z)) (s ++ z)))) (Not 19) ≡ On rest
              → either i (either m (stop_end (between false (s ++ (60 ∷ tag))))
              (closed_end g (entries_end K (length (s ++ (60 ∷ tag))) (s ++ (60 ∷ tag))))) (Not 19) ≡ Not 20
          held true true y = absurd (not_over s (stop_on (between false (s ++ z)) rest y))
          held true false y = ap (closed_end g) (root_twenty K q g s rest f y (length (s ++ (60 ∷ tag))) (omega arith))
          held false m y = absurd (let z : ◌≡◌ {A = ℕ} 0 1 = cc in omega arith)
      root q NoTag f h = absurd (let z : ◌≡◌ {A = ℕ} 0 1 = cc in omega arith)

      opened : (b : ℕ) (q : List ℕ) → (y : Bool) → either y (root_end K (start_tag (q ++ z))) (Not 19) ≡ On rest
          → either y (root_end K (start_tag (q ++ (60 ∷ tag)))) (Not 19) ≡ Not 20
      opened b q true h =
          ap (root_end K) (start_front q tag) ∙ root q (start_tag q) refl (sym (ap (root_end K) (start_front q (drop 1 z))) ∙ h)
      opened b q false h = absurd (let z : ◌≡◌ {A = ℕ} 0 1 = cc in omega arith)

      go : (o : Outcome) → between false p ≡ o → outcome_of (said K (begin ++ (60 ∷ tag))) ≡ Not 20
      go (On []) f =
          let d : Not 19 ≡ On rest = sym (rw (gap_crosses names named tag first false p f, opens_ends names)) ∙ cross in
          absurd (let z : ◌≡◌ {A = ℕ} 0 1 = cc in omega arith)
      go (On (b ∷ q)) f =
          let d : either (opens (b ∷ q)) (root_end K (start_tag (q ++ z))) (Not 19) ≡ On rest =
          sym (rw (gap_on false p b q f (drop 1 z), opens_front b q (drop 1 z))) ∙ cross in
          there ∙ rw (gap_on false p b q f tag, opens_front b q tag) (opened b q (opens (b ∷ q)) d)
      go (Not n) f =
          let d : Not 19 ≡ On rest = sym (rw (gaps_empty (length p) (length (p ++ z)) false p (end_tags names) n (omega arith) f)) ∙ cross in
          absurd (let z : ◌≡◌ {A = ℕ} 0 1 = cc in omega arith)

pub deep_means_twenty : DeepMeansTwenty
deep_means_twenty K s o =
    let w : Opening o.tag = opening o.tag o.starts in
    let a : Accepts K (o.begin ++ (empty_comment ++ end_tags o.names)) = form_accepts K (o.begin ++ (empty_comment ++ end_tags o.names)) o.begins in
    let i : s ≡ o.begin ++ (60 ∷ w.rest) = o.is ∙ ap (λ (l : List ℕ). o.begin ++ l) w.is in
    ap (λ (l : List ℕ). form_of (said K l)) i
    ∙ form_not (said K (o.begin ++ (60 ∷ w.rest))) 20 (said_twenty o.names o.named w.rest w.first o.sixteen K o.begin a.rest a.is)
