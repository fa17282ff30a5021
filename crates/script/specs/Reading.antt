-- What the functions that read a script promise.
-- Assumes nothing.
use Rattle.std.specs.Prelude.{◌^◌, ◌≤◌, ◌<◌, ◌≡◌, true, false, length, Option, Some, None}
use Rattle.model.specs.Sets.{Bytes}
use Rattle.script.specs.Calls.{head_size, last_code, code_of, room_of, number_of, end_a, end_b, end_c, call_size, is_call}
use Rattle.script.specs.declared.heads.Head.{Head}

-- h is the head at the start of s
pub record Headed (s : Bytes) (h : Head) : Type 0 where
  pub code : h.code ≡ code_of s
  pub room : h.room ≡ room_of s
  pub number : h.number ≡ number_of s
  pub a : h.a ≡ end_a s
  pub b : h.b ≡ end_b s
  pub c : h.c ≡ end_c s
  pub d : h.d ≡ call_size s
  pub small : h.room < 2 ^ 32

-- and of a call: its texts lie in s, and its code is one of the codes
pub record Called (s : Bytes) (h : Head) : Type 0 where
  pub headed : Headed s h
  pub inside : (head_size ≤ h.a) × (h.a ≤ h.b) × (h.b ≤ h.c) × (h.c ≤ h.d) × (h.d ≤ length s)
  pub known : (1 ≤ h.code) × (h.code ≤ last_code)
  pub is : is_call s ≡ true

-- the call that s begins with, if it begins with one
abbrev pub Read : Bytes → Option Head → Type 0
Read s None = is_call s ≡ false
Read s (Some h) = Called s h
