-- What the functions do that find and move places in the buffer.
-- Assumes nothing.
use Rattle.std.specs.Prelude.{◌≡◌, ◌⊎◌, List, ℕ, ◌+◌, ◌-◌, ◌^◌, ◌≤◌, ◌<◌, length, get_or}
use Rattle.base.specs.Buffer.{part, splice}
use Rattle.store.specs.Buffer.{le4}
use Rattle.store.specs.Layout.{header_size, heap_start, heap_size, format_of, cap_of, count_of, used_of, end_of, slot_at, slot_of, off_of, size_of}
use Rattle.store.specs.Rows.{row_at, tag_at, rows_of, field_of, replace_at, respelled}
use Rattle.store.specs.Packages.{Sound, Became, Passing, passed, Respelling}

-- the m bytes from a on are the n bytes from `at` on, or none where the buffer has not so many
pub record Spanned (b : List ℕ) (at n a m : ℕ) : Type 0 where
  pub few : m ≤ n
  pub inside : a + m ≤ length b
  pub is : at + n ≤ length b → part a m b ≡ part at n b

-- the n bytes from a on lie within the buffer, and are field j of row i
pub record FieldAt (b : List ℕ) (i j a n : ℕ) : Type 0 where
  pub few : n < 2 ^ 32
  pub inside : a + n ≤ length b
  pub is : Sound b → i < count_of b → part a n b ≡ field_of (row_at b i) j

-- t is the tag of row i, and its slot says that its first field is the n bytes from a on
pub record HeadOf (b : List ℕ) (i t a n : ℕ) : Type 0 where
  pub tag : t ≡ tag_at b i
  pub low : a + n < 2 ^ 34
  pub is : Sound b → (a + n ≤ length b) × (part a n b ≡ field_of (row_at b i) 0)

-- x is the end of the n rows without the one whose k bytes lie at o: e as before, or o where these were the last, or 0 where it was the only row
pub record EndWithout (n e o k x : ℕ) : Type 0 where
  pub low : x ≤ e
  pub is : (x ≡ e) ⊎ (((x ≡ o) × (o + k ≡ e)) ⊎ ((x ≡ 0) × (n ≡ 1)))

-- among the first n slots, r is one of the least offset at or above c
pub record Lowest (b : List ℕ) (n c r : ℕ) : Type 0 where
  pub within : r < n
  pub above : c ≤ off_of (slot_of b r)
  pub least : (i : ℕ) → i < n → c ≤ off_of (slot_of b i) → off_of (slot_of b r) ≤ off_of (slot_of b i)

-- no slot among the first n has an offset at or above c
pub record AllBelow (b : List ℕ) (n c : ℕ) : Type 0 where
  pub below : (i : ℕ) → i < n → off_of (slot_of b i) < c

-- the first k entries of t are slots among the first n, each of a greater offset than those before
pub record ByOffset (b t : List ℕ) (n k : ℕ) : Type 0 where
  pub named : (j : ℕ) → j < k → get_or t j 0 < n
  pub rising : (i j : ℕ) → i < j → j < k → off_of (slot_of b (get_or t i 0)) < off_of (slot_of b (get_or t j 0))

-- m is b with the k bytes of row r moved down to c, where they lay before e
pub record Settled (b m : List ℕ) (r c e k : ℕ) : Type 0 where
  pub fits : c + k ≤ e
  pub moved : off_of (slot_of b r) + size_of (slot_of b r) ≤ e
      → (k ≡ size_of (slot_of b r)) × (m ≡ splice (splice b (heap_start + c) (part (heap_start + off_of (slot_of b r)) k b)) (slot_at r) (le4 c))

-- row r has no bytes, or they do not lie before e; in m it is settled as a row of none
pub record Unsettled (b m : List ℕ) (r c e : ℕ) : Type 0 where
  pub is : (size_of (slot_of b r) ≡ 0) ⊎ (e < off_of (slot_of b r) + size_of (slot_of b r))
  pub settled : Settled b m r c e 0

-- b with the q bytes at a in the heap moved down to end at c
unfoldable pub carried : List ℕ → ℕ → ℕ → ℕ → List ℕ
carried b a q c = splice b (heap_start + (c - q)) (part (heap_start + a) q b)

-- x is how many of the q bytes at a still are to be moved: all, if the bytes at o go on with them, or none, and m is b with them moved down to end at c
pub record Carried (b m : List ℕ) (a q c o x : ℕ) : Type 0 where
  pub is : ((o ≡ a + q) × (x ≡ q) × (m ≡ b)) ⊎ ((x ≡ 0) × (m ≡ carried b a q c))

-- m is b with its rows' bytes gathered or left where they were; k bytes more fit at `at`, or there is no gap
pub record Placed (b m : List ℕ) (k at : ℕ) : Type 0 where
  pub sound : Sound m
  pub rows : rows_of m ≡ rows_of b
  pub cap : cap_of m ≡ cap_of b
  pub format : format_of m ≡ format_of b
  pub end : at ≡ end_of m
  pub close : (at + k ≤ heap_size m) ⊎ (at ≡ used_of m)

-- the slot z tells what the slot s tells, but an offset at c or above is k lower
pub record Shifted (s z : List ℕ) (c k : ℕ) : Type 0 where
  pub same : part 4 20 z ≡ part 4 20 s
  pub low : off_of s < c → off_of z ≡ off_of s
  pub high : c ≤ off_of s → off_of z + k ≡ off_of s

-- m is b with the offsets at c or above, of the first n rows, k lower
pub record Lowered (b m : List ℕ) (n c k : ℕ) : Type 0 where
  pub slots : (i : ℕ) → i < n → Shifted (slot_of b i) (slot_of m i) c k
  pub rest : (a l : ℕ) → (a + l ≤ header_size) ⊎ (heap_start ≤ a) → a + l ≤ length b → part a l m ≡ part a l b

-- m is b with the k bytes at x of the heap, which ended at e, now at its end. What lay behind them lies d lower: k, or 0 where the end had room
-- for them and for `more` bytes
pub record Sent (b m : List ℕ) (n e x k more d : ℕ) : Type 0 where
  pub few : d ≤ k
  pub room : (d ≡ k) ⊎ (e + k + more ≤ heap_size b)
  pub kind : part 0 20 m ≡ part 0 20 b
  pub end : end_of m + d ≡ e + k
  pub slots : (i : ℕ) → i < n → Shifted (slot_of b i) (slot_of m i) (x + k) d
  pub below : (a l : ℕ) → a + l ≤ x → part (heap_start + a) l m ≡ part (heap_start + a) l b
  pub above : (a l : ℕ) → x + k ≤ a → a + l ≤ e → part (heap_start + (a - d)) l m ≡ part (heap_start + a) l b
  pub sent : part (heap_start + (e - d)) k m ≡ part (heap_start + x) k b

-- m is b with the bytes of row r behind those of all others
pub record Last (b m : List ℕ) (r : ℕ) : Type 0 where
  pub became : Became b m (rows_of b)
  pub end : off_of (slot_of m r) + size_of (slot_of m r) ≡ end_of m

-- k bytes more fit behind the end
abbrev pub Fitting : List ℕ → ℕ → Type 0
Fitting m k = end_of m + k ≤ heap_size m

-- or the rows lie without a gap
abbrev pub Close : List ℕ → ℕ → Type 0
Close m k = Fitting m k ⊎ (end_of m ≡ used_of m)

-- if the slot of row r, one of n, says s bytes, they now lie last, and k bytes fit behind them or there is no gap
pub record RowSent (b m : List ℕ) (n r s k : ℕ) : Type 0 where
  pub is : Sound b → n ≡ count_of b → r < n → s ≡ size_of (slot_of b r) → Close b (s + k) → Last b m r × Close m k

pub record Brought (b m : List ℕ) (r k : ℕ) : Type 0 where
  pub is : Sound b → Last b m r × Close m k

-- if the bytes of row i, one of n rows that use u bytes, lie last, the k bytes were passed on to it
pub record PassedBack (b m : List ℕ) (n u j i k : ℕ) : Type 0 where
  pub is : Sound b → n ≡ count_of b → u ≡ used_of b → off_of (slot_of b i) + size_of (slot_of b i) ≡ end_of b → Close b k → Passing b j i k → Became b m (passed b j i k)

-- if the bytes of row r, one of n rows that use u bytes, lie last, and the new ones fit, it has the tag t and the field s
pub record RespelledBack (b m : List ℕ) (n u r t : ℕ) (s : List ℕ) : Type 0 where
  pub is : Sound b → n ≡ count_of b → u ≡ used_of b → off_of (slot_of b r) + size_of (slot_of b r) ≡ end_of b → Respelling b r (length s) → Fitting b (length s)
      → Became b m (replace_at r (respelled (row_at b r) t s) (rows_of b))
