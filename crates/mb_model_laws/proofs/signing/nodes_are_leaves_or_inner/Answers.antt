use Rattle.mb_model_lemmas.proofs.SignatureLemmas as lemmas
use Rattle.mb_model_laws.proofs.signing.nodes_are_leaves_or_inner.Goals as goal

pub returns : goal.returns
returns c = record { leaf = λ key r low high. lemmas.node_of-leaf key r low; inner = lemmas.node_of-inner }
