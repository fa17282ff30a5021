-- Elements and content that end behind p, in the end tags that follow p and a comment: how many of these they take, and what they give where a start tag
-- follows p instead.
-- Assumes nothing.
use Prim.Native.Nat.{ℕ, zero, suc, ◌+◌, ◌-◌, ◌≤◌, ◌<◌}
use native.Mathlib.Omega.{arith}
use mathlib.Core.Path.{◌≡◌, refl, sym, ap, ◌∙◌}
use mathlib.Core.Bool.{Bool, true, false, not, ◌&&◌}
use mathlib.Core.List.{List, [], ◌∷◌, ◌++◌, flat_map, append_assoc}
use lib.Dec.{eqb, leb}
use lib.ListN.{length, get_or, drop, length-append}
use lib.Seq.{drop-drop}
use borrow.Author.Tests.{eq-eqb, eqb-false, leb-true, leb-false}
use Rattle.base.proofs.Bools.{and_left, and_right}
use Rattle.chars.specs.Bytes.{ascii, letter}
use Rattle.chars.specs.Lists.{all}
use Rattle.markup.specs.Marks.{Outcome, On, Not, and_then, name_first, name_at, prefixed}
use Rattle.markup.specs.Tags.{Tag, Started, Begun, NoTag, start_tag, end_tag, opens}
use Rattle.markup.specs.Elements.{gaps, between, held, element_of, element, content}
use Rattle.markup.specs.Depth.{end_tags, is_name}
use Rattle.markup.proofs.FrontTags.{onward, start_front}
use Rattle.markup.proofs.EndTags.{name_bytes, name_bytes_lem, end_same, start_named}
use Rattle.markup.proofs.FrontGaps.{Both, and_on, empty_comment, gaps_nil, gaps_less, gaps_front, gaps_empty}
use Rattle.markup.proofs.Remains.{end_remains, element_remains}
use Rattle.markup.proofs.Contents.{Cut, element_front, goes, content_front, content_step, Farther, farther_on, tag_end_front, held_empty, held_full, KeptElement, element_kept, KeptContent, content_kept}
use Rattle.markup.proofs.Openings.{first_not_lem, gap_stops, gap_passes, content_stops, is_bytes}
use Rattle.markup.proofs.DepthTwenty.{cut_first}

-- END TAGS: between tags stands nothing before them, nor do they hold content
ends_cons : (n : List ℕ) (ns : List (List ℕ)) → end_tags (n ∷ ns) ≡ 60 ∷ 47 ∷ (n ++ (62 ∷ end_tags ns))
unfolding flat_map
ends_cons n ns = ap (λ (l : List ℕ). 60 ∷ 47 ∷ l) (append_assoc n (ascii ">") (end_tags ns))

pub gap_ends : (k : ℕ) (text : Bool) (ns : List (List ℕ)) → gaps k text (end_tags ns) ≡ On (end_tags ns)
unfolding flat_map
gap_ends k text [] = gaps_nil k text
gap_ends k text (n ∷ ns) = gap_stops k text (47 ∷ ((n ++ ascii ">") ++ end_tags ns)) refl

pub opens_ends : (ns : List (List ℕ)) → opens (end_tags ns) ≡ false
unfolding flat_map letter
opens_ends [] = refl
opens_ends (n ∷ ns) = refl

content_nil : (k left : ℕ) (text : Bool) → content k left text [] ≡ On []
unfolding content
content_nil zero left text = refl
content_nil (suc k) left text = rw (gaps_nil 0 text)

content_ends : (k left : ℕ) (text : Bool) (ns : List (List ℕ)) → content k left text (end_tags ns) ≡ On (end_tags ns)
unfolding flat_map
content_ends k left text [] = content_nil k left text
content_ends k left text (n ∷ ns) = content_stops k left text ((n ++ ascii ">") ++ end_tags ns)

-- one of them is read
all_drop : (m : ℕ) (f : List ℕ → Bool) (ns : List (List ℕ)) → all f ns ≡ true → all f (drop m ns) ≡ true
all_drop zero f ns e = e
all_drop (suc m) f [] e = refl
all_drop (suc m) f (n ∷ ns) e = all_drop m f ns (and_right (f n) (all f ns) e)

pub end_next : (m : ℕ) (ns : List (List ℕ)) → all is_name ns ≡ true → (n t : List ℕ) → name_bytes n ≡ true → end_tag n (end_tags (drop m ns)) ≡ On t
    → t ≡ end_tags (drop (m + 1) ns)
unfolding flat_map
end_next m ns a n t b e = go (drop m ns) (all_drop m is_name ns a) refl
  where
    go : (l : List (List ℕ)) → all is_name l ≡ true → drop m ns ≡ l → t ≡ end_tags (drop (m + 1) ns)
    go [] c f =
        let d : end_tag n [] ≡ On t = ap (λ (x : List (List ℕ)). end_tag n (end_tags x)) (sym f) ∙ e in
        absurd (omega (arith, (end_remains n [] t d).1))
    go (o ∷ l) c f =
        let d : end_tag n (60 ∷ 47 ∷ (o ++ (62 ∷ end_tags l))) ≡ On t = ap (end_tag n) (sym (ends_cons o l) ∙ ap end_tags (sym f)) ∙ e in
        let i : drop (m + 1) ns ≡ l = sym (drop-drop 1 m ns) ∙ ap (drop 1) f in
        end_same n o (end_tags l) t b (is_bytes o (and_left (is_name o) (all is_name l) c)) d ∙ ap end_tags (sym i)

-- CROSSINGS: count of the names are read, and if n are, a start tag gives 20
pub record Crossed (names : List (List ℕ)) (n : ℕ) (t : List ℕ) (Twenty : Type 0) : Type 0 where
  pub count : ℕ
  pub few : count ≤ n
  pub is : t ≡ end_tags (drop count names)
  pub deep : count ≡ n → Twenty

module _ (names : List (List ℕ)) (named : all is_name names ≡ true) (tag : List ℕ) (first : name_first (get_or tag 0 0) ≡ true) where
  abbrev pub x : List ℕ
  x = empty_comment ++ end_tags names

  -- what follows p is read where nothing of p remains
  module _ (text : Bool) (p : List ℕ) (f : between text p ≡ On []) where
    pub gap_crosses : between text (p ++ x) ≡ On (end_tags names)
    gap_crosses =
        gaps_front (length p) (length (p ++ x)) (suc (length x)) text p (drop 1 x) [] (omega arith) (omega arith) (omega arith) f
        ∙ gap_passes (length x) text (end_tags names) ∙ gap_ends (length x) text names

    pub gap_comes : between text (p ++ (60 ∷ tag)) ≡ On (60 ∷ tag)
    unfolding letter
    gap_comes =
        gaps_front (length p) (length (p ++ (60 ∷ tag))) (length (60 ∷ tag)) text p tag [] (omega arith) (omega arith) (omega arith) f
        ∙ gap_stops (length (60 ∷ tag)) text tag (first_not_lem 33 refl (get_or tag 0 0) first)

  abbrev pub ElementTwenty : ℕ → List ℕ → Type 0
  ElementTwenty left p = (j : ℕ) → length (p ++ (60 ∷ tag)) ≤ j → element j left (p ++ (60 ∷ tag)) ≡ Not 20

  abbrev pub ContentTwenty : ℕ → Bool → List ℕ → Type 0
  ContentTwenty left text p = (j : ℕ) → length (p ++ (60 ∷ tag)) ≤ j → content j left text (p ++ (60 ∷ tag)) ≡ Not 20

  abbrev pub HeldTwenty : Tag → ℕ → Bool → List ℕ → Type 0
  HeldTwenty g left text p = (j : ℕ) → length (p ++ (60 ∷ tag)) ≤ j → held g (λ (u : List ℕ). content j left text u) (p ++ (60 ∷ tag)) ≡ Not 20

  abbrev pub ElementsCross : ℕ → Type 0
  ElementsCross k = (left : ℕ) (p t : List ℕ) → length (p ++ x) ≤ k → element k left (p ++ x) ≡ On t → length t < length x
      → Crossed names (suc left) t (ElementTwenty left p)

  abbrev pub ContentCross : ℕ → Type 0
  ContentCross k = (left : ℕ) (text : Bool) (p t : List ℕ) → length (p ++ x) ≤ k → content k left text (p ++ x) ≡ On t → length t ≤ length x
      → Crossed names left t (ContentTwenty left text p)

  -- what a tag holds
  pub held_turn : (k : ℕ) → ContentCross k → (left : ℕ) (text : Bool) (q : List ℕ) (g : Tag) (p : List ℕ) → start_tag q ≡ Begun g p → (t : List ℕ)
      → length (p ++ x) ≤ k → held g (λ (u : List ℕ). content k left text u) (p ++ x) ≡ On t → length t < length x
      → Crossed names (suc left) t (HeldTwenty g left text p)
  held_turn k IC left text q g p f t h e l = go g.empty refl
    where
      inside : List ℕ → Outcome
      inside u = content k left text u

      go : (b : Bool) → g.empty ≡ b → Crossed names (suc left) t (HeldTwenty g left text p)
      go true m =
          let d : On (p ++ x) ≡ On t = sym (held_empty g inside (p ++ x) m) ∙ e in
          let i : p ++ x ≡ t = cc in
          absurd (omega (arith, ap length i, length-append p x))
      go false m = split (leb (length w.mid) (length x)) refl
        where
          w : Both (inside (p ++ x)) (end_tag g.name) t
          w = and_on (inside (p ++ x)) (end_tag g.name) t (sym (held_full g inside (p ++ x) m) ∙ e)

          bytes : name_bytes g.name ≡ true
          bytes = rw (start_named q g p f).0 (name_bytes_lem q)

          behind : Crossed names left w.mid (ContentTwenty left text p) → Crossed names (suc left) t (HeldTwenty g left text p)
          behind c =
              record {
                count = c.count + 1;
                few = omega (arith, c.few);
                is = end_next c.count names named g.name t bytes (ap (end_tag g.name) (sym c.is) ∙ w.then);
                deep = λ z (j : ℕ) i. held_full g (λ (u : List ℕ). content j left text u) (p ++ (60 ∷ tag)) m
                    ∙ ap (λ (o : Outcome). and_then o (end_tag g.name)) (c.deep (omega (arith, z)) j i);
              }

          split : (b : Bool) → leb (length w.mid) (length x) ≡ b → Crossed names (suc left) t (HeldTwenty g left text p)
          split true y = behind (IC left text p w.mid h w.first (leb-true (length w.mid) (length x) y))
          split false y =
              let kept : KeptContent left text p w.mid x =
              content_kept k left text p (drop 1 x) w.mid refl h w.first (leb-false (length w.mid) (length x) y) in
              let u : Farther (end_tag g.name kept.rest) x t =
              farther_on (end_tag g.name kept.rest) x t
              (sym (tag_end_front q g p f kept.rest (drop 1 x) refl) ∙ ap (end_tag g.name) (sym kept.is) ∙ w.then) in
              absurd (omega (arith, ap length u.is, length-append u.mid x))

  element_turn : (k : ℕ) → ContentCross k → ElementsCross (suc k)
  unfolding element
  element_turn k IC left p t h e l = go (start_tag p) refl
    where
      inside : List ℕ → Outcome
      inside u = content k left true u

      twenty : (g : Tag) (s : List ℕ) → start_tag p ≡ Begun g s → HeldTwenty g left true s → ElementTwenty left p
      twenty g s f c zero i = absurd (omega (arith, length-append p (60 ∷ tag)))
      twenty g s f c (suc j) i =
          element_front j left p tag g s f ∙ c j (omega (arith, start_named p g s f, length-append p (60 ∷ tag), length-append s (60 ∷ tag)))

      go : (y : Started) → start_tag p ≡ y → Crossed names (suc left) t (ElementTwenty left p)
      go (Begun g s) f =
          let n : length (s ++ x) ≤ k = omega (arith, start_named p g s f, length-append p x, length-append s x) in
          let c : Crossed names (suc left) t (HeldTwenty g left true s) =
          held_turn k IC left true p g s f t n (sym (element_front k left p (drop 1 x) g s f) ∙ e) l in
          record { count = c.count; few = c.few; is = c.is; deep = λ z. twenty g s f (c.deep z) }
      go NoTag f =
          let d : Not 19 ≡ On t = sym (ap (element_of inside) (start_front p (drop 1 x) ∙ ap (onward x) f)) ∙ e in
          absurd (let z : ◌≡◌ {A = ℕ} 0 1 = cc in omega arith)

  -- CONTENT that p ends in
  content_here : (left : ℕ) (text : Bool) (p : List ℕ) → between text p ≡ On [] → 0 ≡ left → ContentTwenty left text p
  content_here left text p f z zero i = absurd (omega (arith, length-append p (60 ∷ tag)))
  content_here left text p f z (suc j) i =
      content_step j left text (p ++ (60 ∷ tag)) ∙ rw (gap_comes text p f, first, eq-eqb left 0 (sym z))

  -- content that goes on with an element
  module _ (left : ℕ) (text : Bool) (p : List ℕ) (b : ℕ) (q : List ℕ) (gap : between text p ≡ On (b ∷ q)) (o : opens (b ∷ q) ≡ true) (n : eqb left 0 ≡ false)
      (a : (not text && not (prefixed (name_at q))) ≡ false) where
    shorter : length (b ∷ q) ≤ length p
    shorter = gaps_less (length p) text p (b ∷ q) gap

    content_into : ElementTwenty (left - 1) q → ContentTwenty left text p
    content_into w zero i = absurd (omega (arith, length-append p (60 ∷ tag)))
    content_into w (suc j) i =
        let l : length (q ++ (60 ∷ tag)) ≤ j = omega (arith, shorter, length-append p (60 ∷ tag), length-append q (60 ∷ tag)) in
        content_front j left text p tag b q gap ∙ rw (o, n, a, w j l)

    content_over : (e : List ℕ) → ((k : ℕ) (r : List ℕ) → Cut r → length (q ++ (60 ∷ r)) ≤ k → element k (left - 1) (q ++ (60 ∷ r)) ≡ On (e ++ (60 ∷ r)))
        → length e ≤ length q → ContentTwenty left text e → ContentTwenty left text p
    content_over e w l v zero i = absurd (omega (arith, length-append p (60 ∷ tag)))
    content_over e w l v (suc j) i =
        let c : length (q ++ (60 ∷ tag)) ≤ j = omega (arith, shorter, length-append p (60 ∷ tag), length-append q (60 ∷ tag)) in
        let d : length (e ++ (60 ∷ tag)) ≤ j = omega (arith, length-append q (60 ∷ tag), length-append e (60 ∷ tag)) in
        content_front j left text p tag b q gap ∙ rw (o, n, a, w j tag (cut_first tag first) c) (v j d)

  content_turn : (k : ℕ) → ElementsCross k → ContentCross k → ContentCross (suc k)
  content_turn k IE IC left text p t h e l = go (between text p) refl
    where
      inner : List ℕ → Outcome
      inner u = element k (left - 1) u

      more : List ℕ → Outcome
      more u = content k left text u

      bits : (b : ℕ) (q : List ℕ) → between text p ≡ On (b ∷ q) → (u v w : Bool) → opens (b ∷ q) ≡ u → eqb left 0 ≡ v
          → (not text && not (prefixed (name_at q))) ≡ w
          → goes u v w inner more b (q ++ x) ≡ On t → Crossed names left t (ContentTwenty left text p)
      bits b q f true true w u1 v1 w1 d = absurd (let z : ◌≡◌ {A = ℕ} 0 1 = cc in omega arith)
      bits b q f true false true u1 v1 w1 d = absurd (let z : ◌≡◌ {A = ℕ} 0 1 = cc in omega arith)
      bits b q f false v w u1 v1 w1 d =
          let i : (b ∷ q) ++ x ≡ t = cc in
          absurd (omega (arith, ap length i, length-append (b ∷ q) x))
      bits b q f true false false u1 v1 w1 d = split (leb (length x) (length c.mid)) refl
        where
          c : Both (inner (q ++ x)) more t
          c = and_on (inner (q ++ x)) more t d

          n : length (q ++ x) ≤ k
          n = omega (arith, gaps_less (length p) text p (b ∷ q) f, length-append p x, length-append q x)

          over : length x ≤ length c.mid → Crossed names left t (ContentTwenty left text p)
          over g =
              let lq : length c.mid < length (q ++ x) = (element_remains k (left - 1) (q ++ x) c.mid c.first).1 in
              let ke : KeptElement (left - 1) q c.mid x = element_kept k (left - 1) q (drop 1 x) c.mid refl n c.first g in
              let le : length c.mid ≡ length ke.rest + length x = ap length ke.is ∙ length-append ke.rest x in
              let ln : length (ke.rest ++ x) ≤ k = omega (arith, n, ap length ke.is) in
              let r : Crossed names left t (ContentTwenty left text ke.rest) = IC left text ke.rest t ln (ap more (sym ke.is) ∙ c.then) l in
              record {
                count = r.count;
                few = r.few;
                is = r.is;
                deep = λ z. content_over left text p b q f u1 v1 w1 ke.rest ke.also (omega (arith, length-append q x)) (r.deep z);
              }

          into : length c.mid < length x → Crossed names left t (ContentTwenty left text p)
          into g =
              let r : Crossed names (suc (left - 1)) c.mid (ElementTwenty (left - 1) q) = IE (left - 1) q c.mid n c.first g in
              let m : more c.mid ≡ On c.mid = ap more r.is ∙ content_ends k left text (drop r.count names) ∙ ap On (sym r.is) in
              let y : On c.mid ≡ On t = sym m ∙ c.then in
              let i : c.mid ≡ t = cc in
              let up : suc (left - 1) ≡ left = omega (arith, eqb-false left 0 v1) in
              record {
                count = r.count;
                few = omega (arith, r.few);
                is = sym i ∙ r.is;
                deep = λ z. content_into left text p b q f u1 v1 w1 (r.deep (omega (arith, z)));
              }

          split : (y : Bool) → leb (length x) (length c.mid) ≡ y → Crossed names left t (ContentTwenty left text p)
          split true y = over (leb-true (length x) (length c.mid) y)
          split false y = into (leb-false (length x) (length c.mid) y)

      go : (o : Outcome) → between text p ≡ o → Crossed names left t (ContentTwenty left text p)
      go (On []) f =
          let d : On (end_tags names) ≡ On t =
          sym (content_step k left text (p ++ x) ∙ rw (gap_crosses text p f, opens_ends names)) ∙ e in
          let i : end_tags names ≡ t = cc in
          record { count = 0; few = omega arith; is = sym i; deep = λ z. content_here left text p f z }
      go (On (b ∷ q)) f =
          bits b q f (opens (b ∷ q)) (eqb left 0) (not text && not (prefixed (name_at q))) refl refl refl
          (sym (content_front k left text p (drop 1 x) b q f) ∙ e)
      go (Not n) f =
          let d : Not 19 ≡ On t =
          sym (content_step k left text (p ++ x) ∙ rw (gaps_empty (length p) (length (p ++ x)) text p (end_tags names) n (omega arith) f)) ∙ e in
          absurd (let z : ◌≡◌ {A = ℕ} 0 1 = cc in omega arith)

  pub crosses : (k : ℕ) → ElementsCross k × ContentCross k
  crosses zero = (
    (λ (left : ℕ) (p t : List ℕ) h e l. absurd (omega (arith, length-append p x))),
    (λ (left : ℕ) (text : Bool) (p t : List ℕ) h e l. absurd (omega (arith, length-append p x))),
  )
  crosses (suc k) = (element_turn k (crosses k).1, content_turn k (crosses k).0 (crosses k).1)
