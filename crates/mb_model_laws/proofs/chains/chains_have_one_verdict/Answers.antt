use Rattle.mb_model_lemmas.proofs.ChainLemmas as lemmas
use Rattle.mb_model_laws.proofs.chains.chains_have_one_verdict.Goals as goal

pub returns : goal.returns
returns c = record { both = lemmas.never_both; neither = lemmas.never_neither; refusal = lemmas.one_refusal; report = lemmas.one_report }
