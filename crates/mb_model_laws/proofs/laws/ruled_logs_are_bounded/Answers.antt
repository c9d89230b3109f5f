use Rattle.mb_model_lemmas.proofs.LogLemmas as lemmas
use Rattle.mb_model_laws.proofs.laws.ruled_logs_are_bounded.Goals as goal

pub returns : goal.returns
returns c = record { index = lemmas.used-bound; changes = lemmas.number_of-le-length; keys = lemmas.made-le-length }
