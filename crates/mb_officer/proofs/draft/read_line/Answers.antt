use Rattle.std.proofs.Common.{◌∷◌, ◌≡◌}
use Rattle.mb_officer.specs.declared.draft.Said.{Said}
use Rattle.mb_officer.specs.declared.draft.Said.TheVariants as said
use Rattle.mb_officer.specs.Drafting.{ordered_by}
use Rattle.mb_officer.proofs.Headings.{first_is}
use Rattle.mb_officer.proofs.Lines.{tells, sound_at, rest_at, add_tells, first_tells, Follows-heading, Follows-code, all_none}
use Rattle.mb_officer.proofs.draft.read_line.Goals as goal
use Rattle.mb_officer.proofs.draft.read_line.Goals.{in-Nothing+in-Some, in-Heading+in-Some-read_target, in-Heading+in-None, in-Owner, in-Version, in-Trust+in_ok-code-in-Trust, in-All}

pub returns-in_default : goal.returns-in_default
returns-in_default c = λ more order says.
    c.in_default.ensures (ordered_by order.act, order.layer)
    (first_is c.args.line.now more order (rest_at _ said.Nothing c.args.targets.now (c.args.line.now ∷ more) order c.in-Nothing.is says))

pub returns : goal.returns
returns c =
    let sound = λ (t : Said) (e : c.args.said ≡ t). sound_at c.args.said t c.args.targets.now e c.requires in
    elim c.match-said.branch [
      | in-Nothing+in-Some w ↦
          tells _ said.Nothing c.args.targets.now _ _ c.args.line.now _ _ w.in-Nothing.is w.result-is w.targets-is
          (Follows-heading w.in-Some.kind w.in-Some.layer c.args.targets.now c.args.line.now (sound said.Nothing w.in-Nothing.is) w.in-Some.ensures)
      | in-Heading+in-Some-read_target w ↦
          tells _ (said.Heading w.in-Heading.kind w.in-Heading.layer) c.args.targets.now _ _ c.args.line.now _ _ w.in-Heading.is w.result-is w.targets-is
          (add_tells w.in-Heading.kind w.in-Heading.layer c.args.targets.now _ c.args.line.now w.in-Some-read_target.target _ (sound (said.Heading w.in-Heading.kind w.in-Heading.layer) w.in-Heading.is) w.in-Some-read_target.ensures w.add_target.ensures)
      | in-Heading+in-None w ↦
          tells _ (said.Heading w.in-Heading.kind w.in-Heading.layer) c.args.targets.now _ _ c.args.line.now _ _ w.in-Heading.is w.result-is w.targets-is
          (first_tells w.in-Heading.kind w.in-Heading.layer c.args.targets.now c.args.line.now _ _ w.in-None.ensures (sound (said.Heading w.in-Heading.kind w.in-Heading.layer) w.in-Heading.is) w.read_first.ensures w.ok_or.ensures.value)
      | in-Owner w ↦
          tells _ (said.Owner w.in-Owner.layer w.in-Owner.owner) c.args.targets.now _ _ c.args.line.now _ _ w.in-Owner.is w.result-is w.targets-is
          (w.end_establish.ensures c.args.targets.now (sound (said.Owner w.in-Owner.layer w.in-Owner.owner) w.in-Owner.is))
      | in-Version w ↦
          tells _ (said.Version w.in-Version.loading w.in-Version.layer w.in-Version.version) c.args.targets.now _ _ c.args.line.now _ _ w.in-Version.is w.result-is w.targets-is
          (w.trust_load.ensures c.args.targets.now (sound (said.Version w.in-Version.loading w.in-Version.layer w.in-Version.version) w.in-Version.is))
      | in-Trust+in_ok-code-in-Trust w ↦
          tells _ (said.Trust w.in-Trust.loading w.in-Trust.layer w.in-Trust.version w.in-Trust.trust) c.args.targets.now _ _ c.args.line.now _ _ w.in-Trust.is w.result-is w.targets-is
          (Follows-code w.in-Trust.loading w.in-Trust.layer w.in-Trust.version w.in-Trust.trust c.args.targets.now c.args.line.now w.in_ok-code-in-Trust.code _ (sound (said.Trust w.in-Trust.loading w.in-Trust.layer w.in-Trust.version w.in-Trust.trust) w.in-Trust.is) w.in_ok-code-in-Trust.ensures.0 w.in_ok-code-in-Trust.ensures.1 w.load_of-act.ensures)
      | in-All w ↦
          tells _ (said.All w.in-All.layer w.in-All.act) c.args.targets.now _ _ c.args.line.now _ _ w.in-All.is w.result-is w.targets-is
          (λ more order says. all_none w.in-All.layer w.in-All.act c.args.targets.now c.args.line.now more order says)
    ]
