-- Texts as lists of bytes: compared, searched, cut at a byte, made of units.
-- Assumes nothing.
use Rattle.std.specs.Prelude.{ℕ, zero, suc, pred, ◌-◌, Bool, true, false, not, ◌&&◌, cond, List, [], ◌∷◌, eqb, length, get_or, take}

-- the text is empty
abbrev pub is_empty : List ℕ → Bool
is_empty s = eqb (length s) 0

-- byte for byte
unfoldable pub same : List ℕ → List ℕ → Bool
same [] [] = true
same [] (y ∷ t) = false
same (x ∷ s) [] = false
same (x ∷ s) (y ∷ t) = eqb x y && same s t

-- s begins with t
unfoldable pub begins : List ℕ → List ℕ → Bool
begins t s = same (take (length t) s) t

-- every byte passes p
unfoldable pub every : (ℕ → Bool) → List ℕ → Bool
every p [] = true
every p (x ∷ s) = p x && every p s

-- where the first byte stands that passes p; the length if none does
unfoldable pub first_passing : (ℕ → Bool) → List ℕ → ℕ
first_passing p [] = 0
first_passing p (x ∷ s) = cond (p x) 0 (suc (first_passing p s))

-- where the first byte stands that fails p; the length if none does
abbrev pub first_not : (ℕ → Bool) → List ℕ → ℕ
first_not p s = first_passing (λ (x : ℕ). not (p x)) s

-- where b first stands; the length if nowhere
abbrev pub index_of : ℕ → List ℕ → ℕ
index_of b s = first_passing (λ (x : ℕ). eqb x b) s

-- b stands nowhere
unfoldable pub lacks : ℕ → List ℕ → Bool
lacks b s = eqb (index_of b s) (length s)

-- n is `after_last` of what follows a byte, q tells whether that byte is the one looked for
abbrev pub after_first : Bool → ℕ → ℕ
after_first q zero = cond q 1 0
after_first q (suc n) = suc (suc n)

-- one more than where b last stands; 0 if nowhere
unfoldable pub after_last : ℕ → List ℕ → ℕ
after_last b [] = 0
after_last b (x ∷ s) = after_first (eqb x b) (after_last b s)

-- 0 for an empty text
unfoldable pub last_byte : List ℕ → ℕ
last_byte s = get_or s (length s - 1) 0

-- the byte x before stretches l: it begins a new one, or is the first byte of the first
abbrev pub cut : Bool → ℕ → List (List ℕ) → List (List ℕ)
cut true x l = [] ∷ l
cut false x [] = (x ∷ []) ∷ []
cut false x (y ∷ l) = (x ∷ y) ∷ l

-- the stretches of s between its bytes b: one more than there are such bytes
unfoldable pub split : ℕ → List ℕ → List (List ℕ)
split b [] = [] ∷ []
split b (x ∷ s) = cut (eqb x b) x (split b s)

-- every stretch passes p
abbrev pub all : (List ℕ → Bool) → List (List ℕ) → Bool
all p [] = true
all p (x ∷ xs) = p x && all p xs

-- s is, after k bytes that are passed over, units one after the other: u gives the length of the unit at the start of a text, 0 for none
unfoldable pub tiled : (List ℕ → ℕ) → ℕ → List ℕ → Bool
tiled u zero [] = true
tiled u (suc k) [] = false
tiled u zero (b ∷ s) = not (eqb (u (b ∷ s)) 0) && tiled u (pred (u (b ∷ s))) s
tiled u (suc k) (b ∷ s) = tiled u k s
