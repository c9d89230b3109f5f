use Rattle.std.proofs.Common.{sym, ◌∙◌, ◌≢◌}
use Rattle.std.specs.Prelude.{codes}
use Rattle.std.proofs.lemmas.Bool.Decides.{Decides-eqb}
use Rattle.std.proofs.lemmas.Slice.Eq.{slice_eq-Decides}
use Rattle.mb_words.proofs.Parts.{clash}
use Rattle.mb_script.proofs.LineKinds.{lone_none}
use Rattle.mb_script.proofs.events.read_lone_word.Goals as goal

pub returns : goal.returns
returns c =
    let boot : c.args.word.now ≢ codes "boot" = λ is. clash _ ((slice_eq-Decides Decides-eqb _ _ _ c.eq.ensures).1 (is ∙ sym c.as_slice.ensures)) c.if-eq.false in
    let off : c.args.word.now ≢ codes "off" = λ is. clash _ ((slice_eq-Decides Decides-eqb _ _ _ c.eq-2.ensures).1 (is ∙ sym c.as_slice-2.ensures)) c.if-eq-2.false in
    let tamper : c.args.word.now ≢ codes "tamper" = λ is. clash _ ((slice_eq-Decides Decides-eqb _ _ _ c.eq-3.ensures).1 (is ∙ sym c.as_slice-3.ensures)) c.if-eq-3.false in
    let status : c.args.word.now ≢ codes "status" = λ is. clash _ ((slice_eq-Decides Decides-eqb _ _ _ c.eq-4.ensures).1 (is ∙ sym c.as_slice-4.ensures)) c.if-eq-4.false in
    let go : c.args.word.now ≢ codes "go" = λ is. clash _ ((slice_eq-Decides Decides-eqb _ _ _ c.eq-5.ensures).1 (is ∙ sym c.as_slice-5.ensures)) c.if-eq-5.false in
    lone_none c.args.word.now c.requires boot off tamper status go
