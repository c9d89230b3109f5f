use Rattle.std.proofs.Common.{[]}
use Rattle.mb_model.specs.declared.order.Act.TheVariants as act
use Rattle.mb_officer.specs.declared.draft.Kind.TheVariants as kind
use Rattle.mb_officer.specs.declared.draft.Said.TheVariants as said
use Rattle.mb_officer.specs.Drafting.{drafted}
use Rattle.mb_officer.proofs.Lines.{sound_at, rest_at}
use Rattle.mb_officer.proofs.Drafts.{heading_at, finished, surrender_finished, new_key_finished, establish_unfinished, load_unfinished}
use Rattle.mb_officer.proofs.draft.finish.Goals as goal

pub returns-in-Surrender : goal.returns-in-Surrender
returns-in-Surrender c =
    let heading = heading_at c.args.said c.in-Heading.kind kind.Surrender c.in-Heading.layer c.in-Heading.is c.in-Surrender.is in
    let sound = sound_at c.args.said (said.Heading kind.Surrender c.in-Heading.layer) c.args.targets heading c.requires in
    finished c.args.said (said.Heading kind.Surrender c.in-Heading.layer) c.args.targets c.unsigned.result (drafted c.in-Heading.layer c.args.targets act.Surrender)
    heading c.unsigned.ensures (surrender_finished c.in-Heading.layer c.args.targets sound.1)

pub returns-in-NewKey : goal.returns-in-NewKey
returns-in-NewKey c =
    let heading = heading_at c.args.said c.in-Heading.kind (kind.NewKey c.in-NewKey.kind) c.in-Heading.layer c.in-Heading.is c.in-NewKey.is in
    let sound = sound_at c.args.said (said.Heading (kind.NewKey c.in-NewKey.kind) c.in-Heading.layer) c.args.targets heading c.requires in
    finished c.args.said (said.Heading (kind.NewKey c.in-NewKey.kind) c.in-Heading.layer) c.args.targets c.unsigned-in-NewKey.result
    (drafted c.in-Heading.layer c.args.targets (act.NewKey c.in-NewKey.kind))
    heading c.unsigned-in-NewKey.ensures (new_key_finished c.in-NewKey.kind c.in-Heading.layer c.args.targets sound.1)

pub returns-in-Establish : goal.returns-in-Establish
returns-in-Establish c = λ order says.
    let heading = heading_at c.args.said c.in-Heading.kind kind.Establish c.in-Heading.layer c.in-Heading.is c.in-Establish.is in
    establish_unfinished c.in-Heading.layer c.args.targets order (rest_at c.args.said (said.Heading kind.Establish c.in-Heading.layer) c.args.targets [] order heading says)

pub returns-in-Load : goal.returns-in-Load
returns-in-Load c = λ order says.
    let heading = heading_at c.args.said c.in-Heading.kind (kind.Load c.in-Load.field-0) c.in-Heading.layer c.in-Heading.is c.in-Load.is in
    load_unfinished c.in-Load.field-0 c.in-Heading.layer c.args.targets order
    (rest_at c.args.said (said.Heading (kind.Load c.in-Load.field-0) c.in-Heading.layer) c.args.targets [] order heading says)
