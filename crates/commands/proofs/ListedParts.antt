-- A walk over the groups sends the lines of the parts one after the other.
-- Assumes nothing.
use Prim.Native.Nat.{ℕ, ◌+◌, ◌≤◌, ◌<◌}
use mathlib.Core.Path.{◌≡◌, refl, ap, sym, ◌∙◌}
use mathlib.Core.Bool.{Bool, true, false, cond}
use mathlib.Core.List.{List, [], ◌∷◌, ◌++◌, append-nil, append_assoc, flat_map}
use native.Mathlib.Omega.{arith}
use lib.ListN.{length, drop, drop_of_length-le}
use Rattle.output.proofs.Sending.{sent_none, sent_more, sent_as}
use Rattle.model.specs.Sets.{Bytes}
use Rattle.model.specs.Package.{Item, parts}
use Rattle.model.specs.Sheet.{part_line, listing}
use Rattle.store.specs.Layout.{count_of}
use Rattle.store.specs.Rows.{row_at, field_of}
use Rattle.store.specs.Packages.{Sound, Shape}
use Rattle.contract.specs.Searches.{Counted}
use Rattle.parts.specs.Runs.{run, Ended}
use Rattle.parts.proofs.PartWalks.{parts_none, next_parts}
use Rattle.commands.specs.Listings.{GroupSent, GroupsSent, ListingSent}

-- the line of one part more, or of none
joined_next : (f : List Item → Bytes) (z : Bool) (g : List Item) (gs hs : List (List Item)) → gs ≡ cond z (g ∷ hs) hs → flat_map f gs ≡ cond z (f g) [] ++ flat_map f hs
unfolding flat_map
joined_next f true g gs hs e = ap (flat_map f) e
joined_next f false g gs hs e = ap (flat_map f) e

module _ (b : Bytes) (n : ℕ) (out : Bytes) where
  pub groups_begin : GroupsSent b n 0 out 0 out
  unfolding listing
  groups_begin = record { within = omega arith; few = omega arith; is = λ S h en. record { text = []; sent = sent_none out 0; is = refl } }

  module _ (i at : ℕ) (out' : Bytes) (w : GroupsSent b n i out at out') where
    -- one group more: q is the prefix in row i, e the end of its group
    pub groups_more : length out' ≡ length out → i < n → (q : Bytes) → (Sound b → i < count_of b → q ≡ field_of (row_at b i) 0) → (e : ℕ) → Ended b (i + 1) n q e
        → (next : ℕ) (out'' : Bytes) → GroupSent b i e out' at next out'' → GroupsSent b n e out next out''
    groups_more same l q eq e x next out'' g = record {
      within = x.high n (omega arith) (omega arith);
      few = omega (arith, x.low, w.few, g.few);
      is = λ S h en.
          let v = w.is S h en in
          let t = cond g.part (part_line S (run i e S.items)) [] in
          let r = flat_map (part_line S) (parts (drop e S.items)) in
          let end : e ≤ length S.items = omega (arith, x.high n (omega arith) (omega arith)) in
          record {
            text = v.text ++ t;
            sent = sent_more out out' out'' v.text t 0 at next v.sent same (g.is S h end);
            is = v.is
                ∙ ap (λ (s : Bytes). v.text ++ s)
                (joined_next (part_line S) g.part (run i e S.items) (parts (drop i S.items)) (parts (drop e S.items)) (next_parts b n i l q eq e x g.part g.judged S h en))
                ∙ sym (append_assoc v.text t r);
          };
    }

    pub groups_end : n ≤ i → Shape b → Counted b n → ListingSent b out at out'
    unfolding flat_map
    groups_end l m c = record {
      few = omega (arith, w.few, w.within, m.few, c.low);
      is = λ S h.
          let v = w.is S h (c.is S h) in
          let z : parts (drop i S.items) ≡ [] = ap parts (drop_of_length-le S.items {i = i} (omega (arith, c.is S h))) ∙ parts_none in
          sent_as out out' v.text (listing S) 0 at (v.is ∙ ap (λ (gs : List (List Item)). v.text ++ flat_map (part_line S) gs) z ∙ append-nil v.text) v.sent;
    }
