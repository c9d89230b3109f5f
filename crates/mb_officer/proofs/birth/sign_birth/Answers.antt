use Rattle.std.proofs.Common.{List, ◌++◌, ℕ, arith, ap, ◌∙◌}
use Rattle.mb_model.specs.records.EntryFormat.{entry_format}
use Rattle.mb_model.proofs.FormatBounds.{entry_short}
use Rattle.mb_image.proofs.Writing.{writes_never_fail}
use Rattle.mb_officer.proofs.Births.{birth_signed}
use Rattle.mb_officer.proofs.birth.sign_birth.Goals as goal

pub unreachable-requires : goal.unreachable-requires
unreachable-requires g c =
    writes_never_fail (entry_format.spelling c.args.birth) c.args.text.now c.write_entry.new.out c.write_entry.result c.write_entry.ensures
    (omega (arith, c.requires.room, entry_short.short c.args.birth c.requires.spelled)) c.in_default.not-Ok

pub returns-clause-text : goal.returns-clause-text
returns-clause-text g c = c.in-Ok.ensures.items ∙ ap (λ (front : List ℕ). front ++ entry_format.spelling c.args.birth) c.requires.empty

pub returns-clause-signed : goal.returns-clause-signed
returns-clause-signed g c =
    birth_signed c.args.seed.now c.args.index c.args.birth c.sign_at.result c.deref.result.now c.args.text.now.items c.sign_at.ensures.signature
    (c.deref.ensures.value ∙ c.in-Ok.ensures.items) c.requires.empty
