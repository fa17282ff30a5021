-- An input that comes in pieces, line by line: one law for each way out.
-- Assumes nothing.
use Prim.Native.Nat.{ℕ, ◌+◌, ◌-◌, ◌≤◌, ◌<◌, min}
use mathlib.Core.Path.{◌≡◌, refl, ap, sym, ◌∙◌}
use mathlib.Core.List.{[], ◌++◌, append_assoc}
use native.Mathlib.Omega.{arith}
use lib.ListN.{length, take, drop, length-append, length-take, length-drop, drop_of_length-le}
use lib.Seq.{length-take-le}
use Rattle.chars.specs.Lists.{first_passing}
use Rattle.chars.proofs.Searches.{index_le}
use Rattle.output.proofs.Sending.{sent_none, sent_more, sent_text, sent_rest}
use Rattle.model.specs.Sets.{Bytes}
use Rattle.model.specs.Package.{State}
use Rattle.model.specs.Texts.{line_feed}
use Rattle.model.specs.Sheet.{line_read, lines_of, shown, shown_by}
use Rattle.contract.specs.Holds.{Holds}
use Rattle.lines.specs.Gathering.{Unended, together, Gathers}
use Rattle.lines.proofs.Together.{take_had}
use Rattle.lines.proofs.Pieces.{gathered_line, gathered_part, shown_end, shown_end_none}
use Rattle.commands.specs.Running.{LineRun}
use Rattle.commands.specs.Feeding.{most_shown, rest, FedTo, Steps, Feeding, Round, Feeds, Ends}
use Rattle.commands.proofs.ShownSizes.{shown_length}

-- no byte of a line is there yet
pub unended_none : (l : Bytes) → Unended (take 0 l)
unfolding first_passing
unended_none l = refl

-- what a line prints is short
line_few : (p l out : Bytes) (k : ℕ) (p' out' : Bytes) → LineRun p l out k p' out' → (S : State) → Holds p S → k ≤ most_shown
line_few p l out k p' out' r S h = omega (arith, (r.shows S h).next_is, shown_length S h.good (line_read l))

-- n bytes of a text that has as many
pub taken_length : (n : ℕ) (l : Bytes) → n ≤ length l → n ≡ length (take n l)
taken_length n l h = sym (length-take-le n l h)

-- what was gathered stands in the line
pub gathered_in : (line : Bytes) (n : ℕ) (piece : Bytes) (from size at : ℕ) (line' : Bytes) → Gathers line n piece from size at line' → size ≤ length line'
gathered_in line n piece from size at line' g =
    let t = together line n piece from in
    omega (arith, g.size_is, ap length g.line_is, length-append t (drop (length t) line))

-- ONE LINE AT MOST
module _ (p line : Bytes) (n : ℕ) (piece : Bytes) (from : ℕ) (out : Bytes) (size at : ℕ) (line' : Bytes) (g : Gathers line n piece from size at line') where
  -- a line feed is there, and the line is run
  pub step_line : at < length piece → (k : ℕ) (p' out' : Bytes) → LineRun p (take size line') out k p' out' → Steps p line n piece from out 0 (at + 1) k p' line' out'
  step_line l k p' out' r = record {
    onward = λ _. (omega (arith, g.at_is), omega arith);
    small = r.few;
    few = λ S h. line_few p (take size line') out k p' out' r S h;
    fed_to = λ S h room o inside. record {
      text = (shown_by S (line_read (take size line'))).0;
      after = (shown_by S (line_read (take size line'))).1;
      sent = r.shows S h;
      holds = r.holds S h;
      begun = unended_none line';
      is = λ later. gathered_line S line piece line' later n from size at g room o inside l;
    };
  }

  -- there is none, and the piece is used up
  pub step_part : length piece ≤ at → Steps p line n piece from out size at 0 p line' out
  step_part l = record {
    onward = λ f. (omega arith, omega (arith, g.at_is, index_le line_feed (drop from piece), length-drop from piece));
    small = omega arith;
    few = λ S h. omega arith;
    fed_to = λ S h room o inside. record {
      text = [];
      after = S;
      sent = sent_none out 0;
      holds = h;
      begun = (gathered_part S line piece line' [] n from size at g room o inside l).1;
      is = λ later.
          (gathered_part S line piece line' later n from size at g room o inside l).0
          ∙ ap (λ (s : Bytes). shown S (lines_of (take size line' ++ (s ++ later)))) (sym (drop_of_length-le piece {i = at} l));
    };
  }

-- SOME LINES
module _ (p line : Bytes) (n : ℕ) (piece : Bytes) (from : ℕ) (out : Bytes) where
  pub feeding_begin : Feeding p line n piece from out n from 0 p line out
  feeding_begin = record {
    low = omega arith;
    inside = λ f. f;
    fits = omega arith;
    room = λ f. omega arith;
    fed_to = λ S h room o inside. record { text = []; after = S; sent = sent_none out 0; holds = h; begun = o; is = λ later. refl };
  }

  round : (n' from' k : ℕ) (p' line' out' : Bytes) (S : State) → FedTo S line n piece from out n' from' k p' line' out' → k ≤ length out → Round S line n piece from out n' from' k p' line' out'
  round n' from' k p' line' out' S t f = record {
    after = t.after;
    holds = t.holds;
    begun = t.begun;
    fits = f;
    is = λ later. t.is later ∙ ap (λ (s : Bytes). s ++ rest t.after line' n' piece from' later) (sym (sent_text out out' t.text k t.sent f));
  }

  module _ (m i at : ℕ) (q line₁ out₁ : Bytes) (w : Feeding p line n piece from out m i at q line₁ out₁) where
    -- the piece is used up
    pub feed_end : length piece ≤ i → Feeds p line n piece from out m i at q line₁ out₁
    feed_end l = record {
      onward = λ f. (omega arith, w.inside (omega arith));
      is = λ S h room o inside most. round m i at q line₁ out₁ S (w.fed_to S h room o inside) (omega (arith, w.room most));
    }

    -- a line more, into the rest of the output
    module _ (l : i < length piece) (ll : length line₁ ≡ length line) (lo : length out₁ ≡ length out) (m' i' k : ℕ) (q' line₂ ys : Bytes)
        (s : Steps q line₁ m piece i (take (length out₁ - at) (drop at out₁)) m' i' k q' line₂ ys) (ly : length ys ≡ length (take (length out₁ - at) (drop at out₁))) where
      abbrev out₂ : Bytes
      out₂ = take at out₁ ++ (ys ++ drop (length out₁ - at) (drop at out₁))

      pub out_length : length out₂ ≡ length out
      out_length =
          length-append (take at out₁) (ys ++ drop (length out₁ - at) (drop at out₁))
          ∙ ap (λ (x : ℕ). length (take at out₁) + x) (length-append ys (drop (length out₁ - at) (drop at out₁)))
          ∙ omega (arith, ly, lo, w.fits, length-take at out₁, length-take (length out₁ - at) (drop at out₁), length-drop at out₁, length-drop (length out₁ - at) (drop at out₁))

      fed_more : (S : State) → Holds p S → 1024 < length line → Unended (take n line) → from ≤ length piece → FedTo S line n piece from out m' i' (at + k) q' line₂ out₂
      fed_more S h room o inside =
          let t = w.fed_to S h room o inside in
          let u = s.fed_to t.after t.holds (omega arith) t.begun (omega arith) in
          record {
            text = t.text ++ u.text;
            after = u.after;
            sent = sent_more out out₁ out₂ t.text u.text 0 at (at + k) t.sent lo (sent_rest out₁ u.text ys at at k (omega (arith, w.fits)) u.sent);
            holds = u.holds;
            begun = u.begun;
            is = λ later.
                t.is later ∙ ap (λ (x : Bytes). t.text ++ x) (u.is later)
                ∙ sym (append_assoc t.text u.text (rest u.after line₂ m' piece i' later));
          }

      step_few : (S : State) → Holds p S → 1024 < length line → Unended (take n line) → from ≤ length piece → k ≤ most_shown
      step_few S h room o inside = let t = w.fed_to S h room o inside in s.few t.after t.holds

      pub feeding_more : at + k + most_shown ≤ length out₂ → Feeding p line n piece from out m' i' (at + k) q' line₂ out₂
      feeding_more f = record {
        low = omega (arith, w.low, (s.onward l).0);
        inside = λ _. (s.onward l).1;
        fits = omega (arith, out_length);
        room = λ _. omega (arith, out_length);
        fed_to = fed_more;
      }

      pub feed_stop : Feeds p line n piece from out m' i' (at + k) q' line₂ out₂
      feed_stop = record {
        onward = λ f. (omega (arith, w.low, (s.onward l).0), (s.onward l).1);
        is = λ S h room o inside most.
            round m' i' (at + k) q' line₂ out₂ S (fed_more S h room o inside) (omega (arith, w.room most, step_few S h room o inside));
      }

-- THE END OF THE INPUT
module _ (p line : Bytes) (n : ℕ) (out : Bytes) (m : ℕ) (em : m ≡ min n (length line)) where
  had : take n line ≡ take m line
  had = take_had n line ∙ ap (λ (k : ℕ). take k line) (sym em)

  pub ends_none : m ≡ 0 → Ends p line n out 0 out
  ends_none z = record {
    is = λ S h o most. (omega arith, shown_end_none S (take n line) (ap length had ∙ length-take m line ∙ omega arith));
  }

  pub ends_line : (m ≡ 0 → ⊥) → (k : ℕ) (p' out' : Bytes) → LineRun p (take m line) out k p' out' → Ends p line n out k out'
  ends_line z k p' out' r = record {
    is = λ S h o most.
        let f : k ≤ length out = omega (arith, line_few p (take m line) out k p' out' r S h) in
        let e : length (take n line) ≡ m = ap length had ∙ length-take-le m line (omega arith) in
        (f, shown_end S (take n line) o (λ y. z (sym e ∙ y)) ∙ ap (λ (l : Bytes). (shown_by S (line_read l)).0) had ∙ sym (sent_text out out' (shown_by S (line_read (take m line))).0 k (r.shows S h) f));
  }
