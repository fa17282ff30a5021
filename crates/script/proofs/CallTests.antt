-- Whether a script begins with a call: one law for each test of it.
-- Assumes nothing.
use Prim.Native.Nat.{◌≤◌, ◌<◌}
use mathlib.Core.Path.{◌≡◌}
use mathlib.Core.Bool.{true, false, ◌&&◌}
use native.Mathlib.Omega.{arith}
use lib.Dec.{leb}
use lib.ListN.{length}
use borrow.Author.Tests.{le-leb, lt-leb, leb-true}
use Rattle.base.proofs.Bools.{and_left, and_right}
use Rattle.model.specs.Sets.{Bytes}
use Rattle.script.specs.Calls.{head_size, last_code, code_of, call_size, is_call}
use Rattle.script.specs.declared.heads.Head.{Head}
use Rattle.script.specs.Reading.{Headed, Called}

module _ (s : Bytes) where
  pub no_head : length s < head_size → is_call s ≡ false
  unfolding is_call
  no_head l = rw (lt-leb head_size (length s) l)

  module _ (h : Head) (e : Headed s h) (l : head_size ≤ length s) where
    pub not_whole : length s < h.d → is_call s ≡ false
    unfolding is_call
    not_whole f = rw (le-leb head_size (length s) l, lt-leb (call_size s) (length s) (rw e.d at f))

    module _ (w : h.d ≤ length s) where
      pub code_low : h.code < 1 → is_call s ≡ false
      unfolding is_call
      code_low f = rw (le-leb head_size (length s) l, le-leb (call_size s) (length s) (rw e.d at w), lt-leb 1 (code_of s) (rw e.code at f))

      module _ (k : 1 ≤ h.code) where
        pub code_high : last_code < h.code → is_call s ≡ false
        unfolding is_call
        code_high f = rw (le-leb head_size (length s) l, le-leb (call_size s) (length s) (rw e.d at w), le-leb 1 (code_of s) (rw e.code at k), lt-leb (code_of s) last_code (rw e.code at f))

        pub is_called : h.code ≤ last_code → Called s h
        unfolding is_call
        is_called f = record {
          headed = e;
          inside = (omega (arith, e.a), omega (arith, e.a, e.b), omega (arith, e.b, e.c), omega (arith, e.c, e.d), w);
          known = (k, f);
          is = rw (le-leb head_size (length s) l, le-leb (call_size s) (length s) (rw e.d at w), le-leb 1 (code_of s) (rw e.code at k), le-leb (code_of s) last_code (rw e.code at f));
        }

-- a call has a head, and lies in the script
pub call_inside : (s : Bytes) → is_call s ≡ true → (head_size ≤ call_size s) × (call_size s ≤ length s)
unfolding is_call
call_inside s e =
    let l : (leb head_size (length s) && leb (call_size s) (length s) && leb 1 (code_of s)) ≡ true = and_left _ (leb (code_of s) last_code) e in
    let m : (leb head_size (length s) && leb (call_size s) (length s)) ≡ true = and_left _ (leb 1 (code_of s)) l in
    (omega arith, leb-true (call_size s) (length s) (and_right (leb head_size (length s)) (leb (call_size s) (length s)) m))
