use mathlib.Core.Path.{sym, ◌∙◌}
use lib.Seq.{length-take-le}
use Rattle.markup.proofs.Decodings.{decoded_within, decoded_same}
use Rattle.markup.proofs.decoding.means.Goals as goal

pub slice_bounds-is_same-end : goal.slice_bounds-is_same-end
slice_bounds-is_same-end c = sym (length-take-le _ _ (decoded_within _ _ _ c.decode-n.ensures))

pub returns : goal.returns
returns c = c.is_same.ensures ∙ decoded_same _ _ _ _ c.decode-n.ensures c.requires
