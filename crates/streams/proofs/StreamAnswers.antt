-- A stream that is sent, and the answer of a call that writes it in two passes.
-- Assumes nothing.
use Prim.Native.Nat.{ℕ, ◌≤◌, ◌<◌}
use mathlib.Core.Path.{◌≡◌, refl, sym}
use mathlib.Core.List.{List, [], ◌++◌}
use native.Mathlib.Omega.{arith}
use lib.ListN.{length}
use Rattle.output.specs.Answers.{Answer, of_written, Text}
use Rattle.output.specs.Sends.{Sent}
use Rattle.output.specs.declared.refusals.Refusal.TheVariants.{NotHeld}
use Rattle.output.specs.declared.refusals.Unwritten.TheVariants as unwritten
use Rattle.std.specs.Prelude.{Ok, Err}
use Rattle.output.proofs.Sending.{sent_more, sent_as, append_none}
use Rattle.output.proofs.Answering.{dry_short, dry_bytes}
use Rattle.model.specs.Sets.{Bytes}
use Rattle.model.specs.Package.{State}
use Rattle.model.specs.Texts.{declaration}
use Rattle.model.specs.Calls.{Print, Prints, printed, value_count}
use Rattle.model.proofs.Numbers.{numbered, zero_numbered}
use Rattle.store.specs.Layout.{count_of, used_of}
use Rattle.store.specs.Rows.{rows_of}
use Rattle.contract.specs.Holds.{Holds}
use Rattle.contract.specs.Ran.{Ran}
use Rattle.contract.specs.Opening.{Open}
use Rattle.contract.proofs.Rans.{wrote}
use Rattle.streams.specs.Streams.{stream_of, run_size, Listed, Streamed, Answered, row_lines}
use Rattle.streams.proofs.RowSizes.{run_used}

pub streamed : (b : List ℕ) (f t : ℕ) (head foot o o₁ o₂ o₃ o₄ : Bytes) (m₁ m₂ m₃ m₄ : ℕ) → length o₁ ≡ length o → length o₂ ≡ length o₁ → length o₃ ≡ length o₂
    → Sent o 0 declaration m₁ o₁ → Sent o₁ m₁ head m₂ o₂ → Listed b f t o₂ m₂ m₃ o₃ → Sent o₃ m₃ foot m₄ o₄ → Streamed b f t head foot o m₄ o₄
streamed b f t head foot o o₁ o₂ o₃ o₄ m₁ m₂ m₃ m₄ l₁ l₂ l₃ s₁ s₂ x s₄ = record {
  is = λ so k.
      let L = row_lines f t (rows_of b) in
      sent_more o o₁ o₄ declaration (head ++ (L ++ foot)) 0 m₁ m₄ s₁ l₁
      (sent_more o₁ o₂ o₄ head (L ++ foot) m₁ m₂ m₄ s₂ l₂
      (sent_more o₂ o₃ o₄ L foot m₂ m₃ m₄ (sent_as o₂ o₃ x.text L m₂ m₃ (sym (x.is so k)) x.sent) l₃ s₄));
}

-- the rows have m bytes, and all rows use u
module _ (b : List ℕ) (f t : ℕ) (head foot : Bytes) (k : t ≤ count_of b) (u : ℕ) (eu : u ≡ used_of b) (m : ℕ) (em : m ≡ run_size b f t) where
  pub answered_foreign : (out : Bytes) → u < m → Answered b f t head foot out (of_written (Err (unwritten.Refused NotHeld)) out)
  answered_foreign out l = record {
    kept = λ _. refl;
    numbered = numbered 13 (omega arith) (omega arith);
    foreign = λ _. refl;
    is = λ so. absurd (omega (arith, run_used b f t so k));
  }

  -- n is the length that the first pass over no bytes tells, ys what it left of them
  module _ (g : m ≤ u) (w ys out : Bytes) (n : ℕ) (x : Streamed b f t head foot w n ys) (z : length ys ≡ 0) where
    pub answered_short : length (ys ++ out) < n → Answered b f t head foot out (of_written (Err (unwritten.TooShort n)) (ys ++ out))
    answered_short l = record {
      kept = λ _. append_none ys out z;
      numbered = numbered 3 (omega arith) (omega arith);
      foreign = λ q. absurd (omega arith);
      is = λ so. let T = stream_of b f t head foot in dry_short (Text T []) T w ys out n refl (x.is so k) z l;
    }

    pub answered_bytes : n ≤ length (ys ++ out) → (r : ℕ) (out' : Bytes) → Streamed b f t head foot (ys ++ out) r out' → Answered b f t head foot out (of_written (Ok r) out')
    answered_bytes l r out' y = record {
      kept = λ q. absurd (q refl);
      numbered = zero_numbered;
      foreign = λ q. absurd (omega arith);
      is = λ so. let T = stream_of b f t head foot in dry_bytes (Text T []) T w ys out n refl (x.is so k) z r out' l (y.is so k);
    }

-- such an answer is the ledger's, where the ledger prints the stream
pub stream_ran : (b : List ℕ) → Open b → (w : Print) → value_count w ≡ 1 → (out : Bytes) (f t : ℕ) (head foot : Bytes) (a : Answer) → Answered b f t head foot out a
    → ((S : State) → Holds b S → printed S (length out) w ≡ Text (stream_of b f t head foot) []) → Ran (Prints w out) b a b
stream_ran b o w v out f t head foot a x e =
    wrote b o w out a x.numbered x.kept (λ S h. rw (e S h, v) (x.is h.lies.sound))
