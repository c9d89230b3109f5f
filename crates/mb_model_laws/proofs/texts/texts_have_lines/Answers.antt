use Rattle.mb_model_lemmas.proofs.LineLemmas as lemmas
use Rattle.mb_model_laws.proofs.texts.texts_have_lines.Goals as goal

pub returns : goal.returns
returns c = record { some = lemmas.HasLines-always; one = lemmas.HasLines-same }
