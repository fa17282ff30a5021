-- A small package, listed by computation.
-- Assumes nothing.
use Rattle.std.specs.Prelude.{ℕ, ◌+◌, ◌≡◌, refl, List, [], ◌∷◌}
use Prim.Native.String.{String}
use Rattle.chars.specs.Bytes.{ascii}
use Rattle.output.specs.Answers.{Answer, answer}
use Rattle.model.specs.Package.{State, empty}
use Rattle.model.specs.Calls.{Call, Changes, PutItem, PutDefault, PutRelationship, overhead, after}
use Rattle.model.specs.Opened.{everything}
use Rattle.entries.specs.Listing.{listed, entry_at}

-- what was put, not in the order of the keys
abbrev pub puts : List Call
puts =
    Changes (PutItem (ascii "/T/[10].last.piece") (ascii "z"))
    ∷ Changes (PutItem (ascii "/t/[9].piece") (ascii "y"))
    ∷ Changes (PutItem (ascii "/S") [])
    ∷ Changes (PutDefault (ascii "xml") (ascii "a/x"))
    ∷ Changes (PutDefault (ascii "TIF") (ascii "a/t"))
    ∷ Changes (PutRelationship (ascii "/S") (ascii "b") (ascii "t:t") 1 (ascii "#c"))
    ∷ Changes (PutRelationship (ascii "/s") (ascii "B") (ascii "t:u") 0 (ascii "T"))
    ∷ Changes (PutRelationship (ascii "/") (ascii "z") (ascii "t:v") 0 (ascii "S"))
    ∷ []

unfoldable pub held : State
held = after (1000 + overhead) (empty 1000) puts

-- into an output of 8 bytes
abbrev pub asked : ℕ → ℕ → ℕ → Answer
asked set position field = entry_at held set position field (ascii "........")

unfoldable pub got : List Answer
got =
    asked 0 0 0 ∷ asked 0 0 1 ∷ asked 0 1 1 ∷ asked 0 2 1 ∷ asked 0 2 0 ∷ asked 0 3 0
    ∷ asked 1 0 0 ∷ asked 1 1 0 ∷ asked 1 1 1 ∷ asked 1 1 2
    ∷ asked 2 0 0 ∷ asked 2 0 2
    ∷ asked 3 0 0 ∷ asked 3 1 1 ∷ asked 3 2 0 ∷ asked 3 1 3 ∷ asked 3 2 3 ∷ asked 3 2 4 ∷ asked 3 0 5
    ∷ asked 4 0 0
    ∷ []

-- the n bytes at the start of the output are the text, in a set of so many entries
abbrev pub copied : ℕ → ℕ → String → Answer
copied n entries output = answer 0 (n ∷ entries ∷ []) (ascii output)

abbrev pub refused_by : ℕ → ℕ → Answer
refused_by n first = answer n (first ∷ 0 ∷ []) (ascii "........")

unfoldable pub wanted : List Answer
wanted =
    copied 2 3 "/S......" ∷ copied 0 3 "........" ∷ copied 1 3 "y......." ∷ copied 1 3 "z......." ∷ refused_by 3 18 ∷ refused_by 13 0
    ∷ copied 3 2 "TIF....." ∷ copied 3 2 "xml....." ∷ copied 3 2 "a/x....." ∷ refused_by 8 0
    ∷ refused_by 13 0 ∷ refused_by 8 0
    ∷ copied 1 3 "/......." ∷ copied 1 3 "B......." ∷ copied 2 3 "/S......" ∷ answer 0 (1 ∷ 3 ∷ []) (0 ∷ ascii ".......")
    ∷ answer 0 (1 ∷ 3 ∷ []) (1 ∷ ascii ".......") ∷ copied 2 3 "#c......" ∷ refused_by 8 0
    ∷ refused_by 8 0
    ∷ []

pub listed_as_wanted : got ≡ wanted
unfolding got wanted held listed entry_at everything
listed_as_wanted = refl
