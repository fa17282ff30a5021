-- A write from one buffer to the next, as a record: nothing computes, and `omega` reads the lengths. Assumes nothing.
use mathlib.Core.Path.{◌≡◌, refl, sym, ap, ◌∙◌}
use Prim.Native.Nat.{ℕ, ◌+◌, ◌-◌, ◌≤◌, ◌<◌}
use mathlib.Core.List.{List, ◌++◌, append_assoc}
use native.Mathlib.Omega.{arith}
use native.Mathlib.Nat.{add_assoc}
use lib.ListN.{length, take, drop, get_or, length-append, length-take}
use lib.Seq.{take_at, drop_at, drop-drop, take-length, ext_get_or}
use Rattle.base.specs.Buffer.{part, splice}
use Rattle.base.proofs.Parts.{length_splice, part_before, part_after, part_in, length_part, get_or_part, splice_part}

-- m is l with s, of k bytes, from index a on
pub record Write (l m : List ℕ) (a k : ℕ) (s : List ℕ) : Type 0 where
  pub is : m ≡ splice l a s
  pub size : length s ≡ k
  pub fits : a + k ≤ length l
  pub len : length m ≡ length l

pub write : (l m : List ℕ) (a k : ℕ) (s : List ℕ) → m ≡ splice l a s → length s ≡ k → a + k ≤ length l → Write l m a k s
write l m a k s e z h = record { is = e; size = z; fits = h; len = ap length e ∙ length_splice l a s (omega arith) }

module _ {l m : List ℕ} {a k : ℕ} {s : List ℕ} (p : Write l m a k s) where
  pub before : (i n : ℕ) → i + n ≤ a → part i n m ≡ part i n l
  before i n h = ap (part i n) p.is ∙ part_before l a s i n h (omega arith)

  pub after : (i n : ℕ) → a + k ≤ i → i + n ≤ length l → part i n m ≡ part i n l
  after i n h q = ap (part i n) p.is ∙ part_after l a s i n (omega arith) q

  -- j is an index in the buffer, i the same in s
  pub within : (j i n : ℕ) → j ≡ a + i → i + n ≤ k → part j n m ≡ part i n s
  within j i n e h = ap (λ (x : ℕ). part x n m) e ∙ ap (part (a + i) n) p.is ∙ part_in l a s i n (omega arith) (omega arith)

-- a part of a part
pub part_part : (a n i k : ℕ) (l : List ℕ) → i + k ≤ n → a + n ≤ length l → part i k (part a n l) ≡ part (a + i) k l
part_part a n i k l h q =
    let e0 : length (part a n l) ≡ n = length_part a n l q in
    let e1 : length (part i k (part a n l)) ≡ k = length_part i k (part a n l) (omega arith) in
    let e2 : length (part (a + i) k l) ≡ k = length_part (a + i) k l (omega arith) in
    ext_get_or 0 (part i k (part a n l)) (part (a + i) k l) (e1 ∙ sym e2)
    (λ j b. let b2 : j < k = omega arith in
    get_or_part i k (part a n l) j b2 ∙ get_or_part a n l (i + j) (omega arith)
    ∙ ap (λ (x : ℕ). get_or l x 0) (sym (add_assoc a i j)) ∙ sym (get_or_part (a + i) k l j b2))

pub part_all : (n : ℕ) (l : List ℕ) → length l ≡ n → part 0 n l ≡ l
unfolding part
part_all n l e = ap (λ (k : ℕ). take k l) (sym e) ∙ take-length l

-- the middle one of three
pub part_mid : (a n : ℕ) (x y z : List ℕ) → length x ≡ a → length y ≡ n → part a n (x ++ (y ++ z)) ≡ y
unfolding part
part_mid a n x y z ex ey = ap (take n) (drop_at x (y ++ z) a ex) ∙ take_at y z n ey

-- two writes side by side are one, the second behind the first or before it
pub join : {l m o : List ℕ} {a k : ℕ} {s : List ℕ} (b j : ℕ) {t : List ℕ} → Write l m a k s → Write m o b j t → b ≡ a + k → Write l o a (k + j) (s ++ t)
unfolding splice
join {l} {m} {o} {a} {k} {s} b j {t} p q e =
    let w : List ℕ = take a l ++ s in
    let lw : length w ≡ b = length-append (take a l) s ∙ ap (λ (x : ℕ). x + length s) (length-take a l) ∙ omega arith in
    let rest : List ℕ = drop (a + length s) l in
    let es : a + length s + length t ≡ a + length (s ++ t) = simp length-append (omega arith) in
    let et : take b m ≡ w = ap (take b) p.is ∙ take_at w rest b lw in
    let ed : drop (b + length t) m ≡ drop (a + length (s ++ t)) l =
    sym (drop-drop (length t) b m) ∙ ap (λ (x : List ℕ). drop (length t) (drop b x)) p.is ∙ ap (drop (length t)) (drop_at w rest b lw)
    ∙ drop-drop (length t) (a + length s) l ∙ ap (λ (x : ℕ). drop x l) es in
    write l o a (k + j) (s ++ t)
    (q.is ∙ ap (λ (x : List ℕ). x ++ t ++ drop (b + length t) m) et ∙ ap (λ (x : List ℕ). w ++ t ++ x) ed
    ∙ ap (λ (x : List ℕ). x ++ drop (a + length (s ++ t)) l) (append_assoc (take a l) s t))
    (simp length-append (omega arith)) (omega arith)

pub join_before : {l m o : List ℕ} {b j : ℕ} {t : List ℕ} (a k : ℕ) {s : List ℕ} → Write l m b j t → Write m o a k s → b ≡ a + k → Write l o a (k + j) (s ++ t)
unfolding splice part
join_before {l} {m} {o} {b} {j} {t} a k {s} p q e =
    let w : List ℕ = take a l ++ s in
    let rest : List ℕ = drop (b + length t) l in
    let es : b + length t ≡ a + length (s ++ t) = simp length-append (omega arith) in
    let el : length (take b l) ≡ b = length-take b l ∙ omega arith in
    let eb : a + length s ≡ b = omega arith in
    let ed : drop (a + length s) m ≡ t ++ rest =
    ap (λ (x : ℕ). drop x m) eb ∙ ap (drop b) (p.is ∙ append_assoc (take b l) t rest) ∙ drop_at (take b l) (t ++ rest) b el in
    write l o a (k + j) (s ++ t)
    (q.is ∙ ap (λ (x : List ℕ). x ++ s ++ drop (a + length s) m) (before p 0 a (omega arith)) ∙ ap (λ (x : List ℕ). w ++ x) ed
    ∙ sym (append_assoc w t rest) ∙ ap (λ (x : List ℕ). x ++ rest) (append_assoc (take a l) s t) ∙ ap (λ (x : ℕ). take a l ++ (s ++ t) ++ drop x l) es)
    (simp length-append (omega arith)) (omega arith)

-- a write over another one
pub over : {l m o : List ℕ} {a k : ℕ} {s t : List ℕ} → Write l m a k s → Write m o a k t → Write l o a k t
unfolding splice part
over {l} {m} {o} {a} {k} {s} {t} p q =
    let w : List ℕ = take a l ++ s in
    let lw : length w ≡ a + length t = length-append (take a l) s ∙ ap (λ (x : ℕ). x + length s) (length-take a l) ∙ omega arith in
    let es : a + length s ≡ a + length t = omega arith in
    let ed : drop (a + length t) m ≡ drop (a + length t) l =
    ap (drop (a + length t)) p.is ∙ drop_at w (drop (a + length s) l) (a + length t) lw ∙ ap (λ (x : ℕ). drop x l) es in
    write l o a k t
    (q.is ∙ ap (λ (x : List ℕ). x ++ t ++ drop (a + length t) m) (before p 0 a (omega arith)) ∙ ap (λ (x : List ℕ). take a l ++ t ++ x) ed)
    q.size (omega (arith, p.fits))

pub all_write : (l m : List ℕ) (a : ℕ) (s : List ℕ) → m ≡ splice l a s → a + length s ≤ length l → Write l m a (length s) s
all_write l m a s e h = write l m a (length s) s e refl h

-- bytes that stand there already
stay : (m : List ℕ) (a g : ℕ) (s : List ℕ) → a + g ≤ length m → part a g m ≡ s → Write m m a g s
stay m a g s h e = write m m a g s (sym (splice_part a g m h) ∙ ap (splice m a) e) (ap length (sym e) ∙ length_part a g m h) h

-- of two writes that do not meet either may be the first
pub commute : (l : List ℕ) (a : ℕ) (s : List ℕ) (b : ℕ) (t : List ℕ) → a + length s ≤ b → b + length t ≤ length l → splice (splice l a s) b t ≡ splice (splice l b t) a s
commute l a s b t h q =
    let g : ℕ = b - (a + length s) in
    let mid : List ℕ = part (a + length s) g l in
    let p1 = all_write l (splice l a s) a s refl (omega arith) in
    let pm = stay (splice l a s) (a + length s) g mid (omega (arith, p1.len)) (after p1 (a + length s) g (omega arith) (omega arith)) in
    let p2 = all_write (splice l a s) (splice (splice l a s) b t) b t refl (omega (arith, p1.len)) in
    let q1 = all_write l (splice l b t) b t refl q in
    let qm = stay (splice l b t) (a + length s) g mid (omega (arith, q1.len)) (before q1 (a + length s) g (omega arith)) in
    let q2 = all_write (splice l b t) (splice (splice l b t) a s) a s refl (omega (arith, q1.len)) in
    (join b (length t) (join (a + length s) g p1 pm refl) p2 (omega arith)).is ∙ ap (splice l a) (append_assoc s mid t)
    ∙ sym (join_before a (length s) (join_before (a + length s) g q1 qm (omega arith)) q2 refl).is
