use Rattle.mb_host.proofs.Stored.{Stores-set, Stores-push}
use Rattle.mb_host.proofs.memory.store.Goals as goal

pub returns-in-Some-clause-stored : goal.returns-in-Some-clause-stored
returns-in-Some-clause-stored c =
    rw c.in_ok-bytes.ensures (Stores-set _ _ _ _ _ c.index_mut.ensures.value (cc))

pub returns-in_ok-push-in-None-clause-stored : goal.returns-in_ok-push-in-None-clause-stored
returns-in_ok-push-in-None-clause-stored c =
    rw (c.in_ok-push-in-None.ensures.items, c.in_ok-bytes.ensures, c.in_ok-name-in-None.ensures, c.as_bytes.ensures.value) (Stores-push _ _ _ (cc))
