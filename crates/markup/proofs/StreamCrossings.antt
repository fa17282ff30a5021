-- Streams that end behind p, in the end tags that follow p and a comment: where these are sixteen, a start tag in their place gives 20.
-- Assumes nothing.
use Prim.Native.Nat.{ℕ, zero, suc, ◌+◌, ◌≤◌, ◌<◌}
use native.Mathlib.Omega.{arith}
use mathlib.Core.Path.{◌≡◌, refl, sym, ap, ◌∙◌}
use mathlib.Core.Bool.{Bool, true, false}
use mathlib.Core.List.{List, [], ◌∷◌, ◌++◌}
use mathlib.Core.Option.{Option, none, some}
use lib.Dec.{leb}
use lib.ListN.{length, get_or, drop, length-append}
use borrow.Author.Tests.{leb-true, leb-false}
use Rattle.chars.specs.Lists.{all}
use Rattle.markup.specs.Marks.{Outcome, On, Not, and_then, name_first, name_at, prefixed}
use Rattle.markup.specs.Tags.{Tag, Started, Begun, NoTag, start_tag, opens}
use Rattle.markup.specs.Elements.{between}
use Rattle.markup.specs.Entries.{Entry, entry_of}
use Rattle.markup.specs.Streams.{entry_held, entries_in}
use Rattle.markup.specs.Depth.{end_tags, is_name}
use Rattle.markup.specs.declared.entries.Kind.{Kind}
use Rattle.markup.proofs.FrontGaps.{Both, and_on, empty_comment, gaps_less, gaps_empty}
use Rattle.markup.proofs.Contents.{Cut, opens_front, gap_on}
use Rattle.markup.proofs.DepthTwenty.{cut_first}
use Rattle.markup.proofs.PiecesTwenty.{entered, piece_end, entries_end, entries_step, piece_remains, KeptPiece, piece_kept, passed_front, entry_front, tagless_front}
use Rattle.markup.proofs.StreamsTwenty.{entries_front, Opening, opening}
use Rattle.markup.proofs.Crossings.{gap_ends, opens_ends, Crossed, gap_crosses, ElementTwenty, HeldTwenty, held_turn, crosses}

entries_ends : (K : Kind) (k : ℕ) (ns : List (List ℕ)) → entries_end K k (end_tags ns) ≡ On (end_tags ns)
unfolding entries_in
entries_ends K zero ns = refl
entries_ends K (suc k) ns = entries_step K k (end_tags ns) ∙ rw (gap_ends (length (end_tags ns)) false ns, opens_ends ns)

module _ (names : List (List ℕ)) (named : all is_name names ≡ true) (tag : List ℕ) (first : name_first (get_or tag 0 0) ≡ true) where
  abbrev z : List ℕ
  z = empty_comment ++ end_tags names

  -- A PIECE
  piece_crosses : (K : Kind) (p t : List ℕ) → piece_end K (p ++ z) ≡ On t → length t < length z → Crossed names 15 t (piece_end K (p ++ (60 ∷ tag)) ≡ Not 20)
  piece_crosses K p t e l = go (prefixed (name_at p)) refl
    where
      known : prefixed (name_at p) ≡ false → (g : Tag) (s : List ℕ) → start_tag p ≡ Begun g s → (y : Option Entry) → entry_of K g ≡ y
          → entered y (entry_held g (s ++ z)) ≡ On t → Crossed names 15 t (piece_end K (p ++ (60 ∷ tag)) ≡ Not 20)
      known b g s f none y d = absurd (let z : ◌≡◌ {A = ℕ} 0 1 = cc in omega arith)
      known b g s f (some v) y d =
          let c : Crossed names 15 t (HeldTwenty names named tag first g 14 false s) =
          held_turn names named tag first (length (s ++ z)) (crosses names named tag first (length (s ++ z))).1 14 false p g s f t (omega arith) d l in
          record {
            count = c.count;
            few = c.few;
            is = c.is;
            deep = λ u. entry_front K p b g s f tag ∙ rw y (c.deep u (length (s ++ (60 ∷ tag))) (omega arith));
          }

      entry : prefixed (name_at p) ≡ false → (y : Started) → start_tag p ≡ y → Crossed names 15 t (piece_end K (p ++ (60 ∷ tag)) ≡ Not 20)
      entry b (Begun g s) f = known b g s f (entry_of K g) refl (sym (entry_front K p b g s f (drop 1 z)) ∙ e)
      entry b NoTag f =
          let d : Not 19 ≡ On t = sym (tagless_front K p b f (drop 1 z)) ∙ e in
          absurd (let z : ◌≡◌ {A = ℕ} 0 1 = cc in omega arith)

      go : (b : Bool) → prefixed (name_at p) ≡ b → Crossed names 15 t (piece_end K (p ++ (60 ∷ tag)) ≡ Not 20)
      go true b =
          let c : Crossed names 15 t (ElementTwenty names named tag first 14 p) =
          (crosses names named tag first (length (p ++ z))).0 14 p t (omega arith) (sym (passed_front K p b (drop 1 z)) ∙ e) l in
          record { count = c.count; few = c.few; is = c.is; deep = λ u. passed_front K p b tag ∙ c.deep u (length (p ++ (60 ∷ tag))) (omega arith) }
      go false b = entry b (start_tag p) refl

  -- ALL PIECES
  abbrev pub EntriesTwenty : Kind → List ℕ → Type 0
  EntriesTwenty K p = (j : ℕ) → length (p ++ (60 ∷ tag)) ≤ j → entries_end K j (p ++ (60 ∷ tag)) ≡ Not 20

  abbrev EntriesCross : Kind → ℕ → Type 0
  EntriesCross K k = (p t : List ℕ) → length (p ++ z) ≤ k → entries_end K k (p ++ z) ≡ On t → length t ≤ length z → Crossed names 15 t (EntriesTwenty K p)

  module _ (K : Kind) (p q : List ℕ) (gap : between false p ≡ On (60 ∷ q)) (o : opens (60 ∷ q) ≡ true) where
    entries_into : piece_end K (q ++ (60 ∷ tag)) ≡ Not 20 → EntriesTwenty K p
    entries_into w zero i = absurd (omega (arith, length-append p (60 ∷ tag)))
    entries_into w (suc j) i = entries_front K j p q tag gap o ∙ ap (λ (u : Outcome). and_then u (λ (v : List ℕ). entries_end K j v)) w

    entries_over : (t : List ℕ) → ((r : List ℕ) → Cut r → piece_end K (q ++ (60 ∷ r)) ≡ On (t ++ (60 ∷ r))) → length t ≤ length q → EntriesTwenty K t
        → EntriesTwenty K p
    entries_over t w l v zero i = absurd (omega (arith, length-append p (60 ∷ tag)))
    entries_over t w l v (suc j) i =
        let a : length (60 ∷ q) ≤ length p = gaps_less (length p) false p (60 ∷ q) gap in
        let c : length (t ++ (60 ∷ tag)) ≤ j = omega (arith, length-append p (60 ∷ tag), length-append t (60 ∷ tag)) in
        entries_front K j p q tag gap o ∙ ap (λ (u : Outcome). and_then u (λ (v : List ℕ). entries_end K j v)) (w tag (cut_first tag first)) ∙ v j c

    pieces_turn : (k : ℕ) → EntriesCross K k → (t : List ℕ) → length (p ++ z) ≤ suc k → entries_end K (suc k) (p ++ z) ≡ On t → length t ≤ length z
        → Crossed names 15 t (EntriesTwenty K p)
    pieces_turn k IH t h e l = split (leb (length z) (length c.mid)) refl
      where
        more : List ℕ → Outcome
        more u = entries_end K k u

        c : Both (piece_end K (q ++ z)) more t
        c = and_on (piece_end K (q ++ z)) more t (sym (entries_front K k p q (drop 1 z) gap o) ∙ e)

        n : length (q ++ z) ≤ k
        n = omega (arith, gaps_less (length p) false p (60 ∷ q) gap, length-append p z, length-append q z)

        over : length z ≤ length c.mid → Crossed names 15 t (EntriesTwenty K p)
        over g =
            let lq : length c.mid < length (q ++ z) = (piece_remains K (q ++ z) c.mid c.first).1 in
            let kp : KeptPiece K q c.mid z = piece_kept K q (drop 1 z) c.mid refl c.first g in
            let le : length c.mid ≡ length kp.rest + length z = ap length kp.is ∙ length-append kp.rest z in
            let ln : length (kp.rest ++ z) ≤ k = omega (arith, n, ap length kp.is) in
            let r : Crossed names 15 t (EntriesTwenty K kp.rest) = IH kp.rest t ln (ap more (sym kp.is) ∙ c.then) l in
            record {
              count = r.count;
              few = r.few;
              is = r.is;
              deep = λ u. entries_over kp.rest kp.also (omega (arith, length-append q z)) (r.deep u);
            }

        into : length c.mid < length z → Crossed names 15 t (EntriesTwenty K p)
        into g =
            let r : Crossed names 15 c.mid (piece_end K (q ++ (60 ∷ tag)) ≡ Not 20) = piece_crosses K q c.mid c.first g in
            let m : more c.mid ≡ On c.mid = ap more r.is ∙ entries_ends K k (drop r.count names) ∙ ap On (sym r.is) in
            let y : On c.mid ≡ On t = sym m ∙ c.then in
            let i : c.mid ≡ t = cc in
            record { count = r.count; few = r.few; is = sym i ∙ r.is; deep = λ u. entries_into (r.deep u) }

        split : (b : Bool) → leb (length z) (length c.mid) ≡ b → Crossed names 15 t (EntriesTwenty K p)
        split true y = over (leb-true (length z) (length c.mid) y)
        split false y = into (leb-false (length z) (length c.mid) y)

  entries_turn : (K : Kind) (k : ℕ) → EntriesCross K k → EntriesCross K (suc k)
  entries_turn K k IH p t h e l = go (between false p) refl
    where
      opened : (b : ℕ) (q : List ℕ) → between false p ≡ On (b ∷ q) → (y : Bool) → opens (b ∷ q) ≡ y → Crossed names 15 t (EntriesTwenty K p)
      opened b q f true o =
          let w : Opening (b ∷ q) = opening (b ∷ q) o in
          pieces_turn K p w.rest (f ∙ ap On w.is) (ap opens (sym w.is) ∙ o) k IH t h e l
      opened b q f false o =
          let d : On ((b ∷ q) ++ z) ≡ On t = sym (entries_step K k (p ++ z) ∙ rw (gap_on false p b q f (drop 1 z), opens_front b q (drop 1 z), o)) ∙ e in
          let i : (b ∷ q) ++ z ≡ t = cc in
          absurd (omega (arith, ap length i, length-append (b ∷ q) z))

      go : (o : Outcome) → between false p ≡ o → Crossed names 15 t (EntriesTwenty K p)
      go (On []) f =
          let d : On (end_tags names) ≡ On t =
          sym (entries_step K k (p ++ z) ∙ rw (gap_crosses names named tag first false p f, opens_ends names)) ∙ e in
          let i : end_tags names ≡ t = cc in
          record { count = 0; few = omega arith; is = sym i; deep = λ u. absurd (omega (arith, u)) }
      go (On (b ∷ q)) f = opened b q f (opens (b ∷ q)) refl
      go (Not n) f =
          let d : Not 19 ≡ On t =
          sym (entries_step K k (p ++ z) ∙ rw (gaps_empty (length p) (length (p ++ z)) false p (end_tags names) n (omega arith) f)) ∙ e in
          absurd (let z : ◌≡◌ {A = ℕ} 0 1 = cc in omega arith)

  pub entries_cross : (K : Kind) (k : ℕ) (p t : List ℕ) → length (p ++ z) ≤ k → entries_end K k (p ++ z) ≡ On t → length t ≤ length z
      → Crossed names 15 t (EntriesTwenty K p)
  entries_cross K zero p t h e l = absurd (omega (arith, length-append p z))
  entries_cross K (suc k) p t h e l = entries_turn K k (λ (q u : List ℕ) a b c. entries_cross K k q u a b c) p t h e l
