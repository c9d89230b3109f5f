use Rattle.std.proofs.Common.{sym, ◌∙◌, ◌≢◌}
use Rattle.std.specs.Prelude.{codes}
use Rattle.std.proofs.lemmas.Bool.Decides.{Decides-eqb}
use Rattle.std.proofs.lemmas.Slice.Eq.{slice_eq-Decides}
use Rattle.mb_words.proofs.Parts.{clash}
use Rattle.mb_script.proofs.LineKinds.{words_none}
use Rattle.mb_script.proofs.events.read_words.Goals as goal

pub returns : goal.returns
returns c =
    let cut : c.args.word.now ≢ codes "cut" = λ is. clash _ ((slice_eq-Decides Decides-eqb _ _ _ c.eq.ensures).1 (is ∙ sym c.as_slice.ensures)) c.if-eq.false in
    let command : c.args.word.now ≢ codes "command" = λ is. clash _ ((slice_eq-Decides Decides-eqb _ _ _ c.eq-2.ensures).1 (is ∙ sym c.as_slice-2.ensures)) c.if-eq-2.false in
    let put : c.args.word.now ≢ codes "put" = λ is. clash _ ((slice_eq-Decides Decides-eqb _ _ _ c.eq-3.ensures).1 (is ∙ sym c.as_slice-3.ensures)) c.if-eq-3.false in
    let get : c.args.word.now ≢ codes "get" = λ is. clash _ ((slice_eq-Decides Decides-eqb _ _ _ c.eq-4.ensures).1 (is ∙ sym c.as_slice-4.ensures)) c.if-eq-4.false in
    let drop : c.args.word.now ≢ codes "drop" = λ is. clash _ ((slice_eq-Decides Decides-eqb _ _ _ c.eq-5.ensures).1 (is ∙ sym c.as_slice-5.ensures)) c.if-eq-5.false in
    let sign : c.args.word.now ≢ codes "sign" = λ is. clash _ ((slice_eq-Decides Decides-eqb _ _ _ c.eq-6.ensures).1 (is ∙ sym c.as_slice-6.ensures)) c.if-eq-6.false in
    let call : c.args.word.now ≢ codes "call" = λ is. clash _ ((slice_eq-Decides Decides-eqb _ _ _ c.eq-7.ensures).1 (is ∙ sym c.as_slice-7.ensures)) c.if-eq-7.false in
    words_none c.args.word.now c.args.rest.now c.requires cut command put get drop sign call
