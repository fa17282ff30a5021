use mathlib.Core.Path.{◌∙◌}
use native.Mathlib.Nat.{zero-add}
use lib.ListN.{length}
use Rattle.base.specs.Buffer.{splice}
use Rattle.types.proofs.TypeOrigins.{key_short, key_override, key_default}
use Rattle.types.proofs.origin.put_key.Goals as goal

pub returns-then-out-key : goal.returns-then-out-key
returns-then-out-key c = key_short c.args.pkg.now _ c.requires.1 c.args.out.now _ c.field-key.ensures.2 c.if-out-key.true

pub returns-then-tag-eq-OVERRIDE_TAG : goal.returns-then-tag-eq-OVERRIDE_TAG
unfolding splice
returns-then-tag-eq-OVERRIDE_TAG c =
    key_override c.args.pkg.now _ c.requires.1 c.args.out.now _ c.field-key.ensures.2 c.if-out-key.false _
    (c.copy_in.ensures ∙ rw (zero-add (length c.field-key.result.now))) _ c.tag.ensures.1 c.if-tag-eq-OVERRIDE_TAG.true

pub returns : goal.returns
unfolding splice
returns c =
    key_default c.args.pkg.now _ c.requires.1 c.args.out.now _ c.field-key.ensures.2 c.if-out-key.false _
    (c.copy_in.ensures ∙ rw (zero-add (length c.field-key.result.now))) _ c.tag.ensures.1 c.if-tag-eq-OVERRIDE_TAG.false
