-- The program's account, from its start to the end of the input: one law for each call.
-- Assumes nothing.
use Rattle.std.proofs.Common.{◌≡◌, ℕ, ◌<◌, ◌≤◌, [], ◌++◌, length, take, drop, sym, refl, ap, ◌∙◌, subst, append_assoc, append-nil, arith, drop_of_length-le, length-take-le}
use Rattle.model.specs.Sets.{Bytes}
use Rattle.model.specs.Package.{empty}
use Rattle.model.specs.Sheet.{lines_of, shown, sheet}
use Rattle.contract.specs.Holds.{Holds}
use Rattle.commands.specs.Feeding.{most_shown, rest, Round, Feeds, Ends}
use Rattle.commands.specs.Inputs.{sheet_capacity}
use Rattle.commands.proofs.FedLines.{unended_none}
use Rattle.sheet.specs.Passing.{passed_none, Passes}
use Rattle.sheet.specs.Account.{Ready, Whole}

-- a part at the front, and its length
front_len : (k : ℕ) (l : Bytes) → k ≤ length l → (k ≤ length l) × (k ≡ length (take k l))
front_len k l h = (h, sym (length-take-le k l h))

-- nothing has passed, and the package is empty
pub ready_begin : (p line out : Bytes) → Holds p (empty sheet_capacity) → 1024 < length line → most_shown ≤ length out → Ready p line 0 [] out 0 0
unfolding sheet
ready_begin p line out h w m = record {
  input = [];
  printed = [];
  came = passed_none;
  went = passed_none;
  state = empty sheet_capacity;
  holds = h;
  begun = unended_none line;
  wide = w;
  room = m;
  is = λ later. refl;
}

module _ (p line : Bytes) (n : ℕ) (out : Bytes) (read written : ℕ) where
  -- NOTHING IS AHEAD
  module _ (y : Ready p line n [] out read written) where
    -- some bytes are read
    pub ready_read : (t : Bytes) (read' : ℕ) → Passes read t read' → Ready p line n t out read' written
    ready_read t read' s = record {
      input = y.input ++ t;
      printed = y.printed;
      came = s.after y.input y.came;
      went = y.went;
      state = y.state;
      holds = y.holds;
      begun = y.begun;
      wide = y.wide;
      room = y.room;
      is = λ later. ap sheet (append_assoc y.input t later) ∙ y.is (t ++ later);
    }

    -- the input has ended, and what its last line prints is printed
    module _ (k : ℕ) (out' : Bytes) (f : Ends p line n out k out') where
      last : (k ≤ length out) × (shown y.state (lines_of (take n line)) ≡ take k out')
      last = f.is y.state y.holds y.begun y.room

      pub ready_last : length out' ≡ length out → (k ≤ length out') × (k ≡ length (take k out'))
      ready_last m = front_len k out' (omega (arith, last.0))

      printed_is : y.printed ++ take k out' ≡ sheet y.input
      printed_is =
          ap (λ (x : Bytes). y.printed ++ x) (sym last.1)
          ∙ ap (λ (x : Bytes). y.printed ++ shown y.state (lines_of x)) (sym (append-nil (take n line)))
          ∙ sym (y.is [])
          ∙ ap sheet (append-nil y.input)

      pub ready_whole : (written' : ℕ) → Passes written (take k out') written' → Whole read written'
      ready_whole written' s = record { input = y.input; came = y.came; went = rw (← printed_is) (s.after y.printed y.went) }

  -- A PIECE IS AHEAD, from a place on
  module _ (piece : Bytes) (from : ℕ) (y : Ready p line n (drop from piece) out read written) where
    -- some lines of it are run, and what they print is printed
    module _ (inside : from ≤ length piece) (n' from' k : ℕ) (p' line' out' : Bytes) (f : Feeds p line n piece from out n' from' k p' line' out') where
      turn : Round y.state line n piece from out n' from' k p' line' out'
      turn = f.is y.state y.holds y.wide y.begun inside y.room

      pub ready_fits : length out' ≡ length out → (k ≤ length out') × (k ≡ length (take k out'))
      ready_fits m = front_len k out' (omega (arith, turn.fits))

      pub ready_more : length out' ≡ length out → length line' ≡ length line → (written' : ℕ) → Passes written (take k out') written'
          → Ready p' line' n' (drop from' piece) out' read written'
      ready_more m l written' s = record {
        input = y.input;
        printed = y.printed ++ take k out';
        came = y.came;
        went = s.after y.printed y.went;
        state = turn.after;
        holds = turn.holds;
        begun = turn.begun;
        wide = omega (arith, y.wide);
        room = omega (arith, y.room);
        is = λ later.
            y.is later
            ∙ ap (λ (x : Bytes). y.printed ++ x) (turn.is later)
            ∙ sym (append_assoc y.printed (take k out') (rest turn.after line' n' piece from' later));
      }

    -- it is used up
    pub ready_through : length piece ≤ from → Ready p line n [] out read written
    ready_through l = subst (λ (a : Bytes). Ready p line n a out read written) (drop_of_length-le piece {i = from} l) y
