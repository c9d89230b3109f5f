use Rattle.std.proofs.Common.{◌≤◌, List, length, sym, subst}
use Rattle.mb_model.specs.declared.entry.SignedEntry.{SignedEntry}
use Rattle.mb_model.specs.owners.Log.{entries_of, RuledLog}
use Rattle.mb_model_lemmas.proofs.ChainLemmas.{good_is_ruled}
use Rattle.mb_tools_shown.proofs.HistoryLemmas.{entries_few}
use Rattle.mb_tools_shown.proofs.told.find_history.Goals as goal

pub signer_of-requires-clause-short : goal.signer_of-requires-clause-short
signer_of-requires-clause-short c =
    subst (λ (l : List SignedEntry). length l ≤ 128) (sym c.as_slice.ensures) (entries_few c.in_ok-chain.chain c.in_ok-chain.ensures.spelled.allowed)

pub signer_of-requires-clause-ruled : goal.signer_of-requires-clause-ruled
signer_of-requires-clause-ruled c =
    subst (λ (l : List SignedEntry). RuledLog (entries_of l)) (sym c.as_slice.ensures) (good_is_ruled c.args.root.now c.in_ok-chain.chain.entries c.in_ok-chain.ensures.good)
