use Rattle.mb_model_lemmas.proofs.HeldSegments as held
use Rattle.mb_model_lemmas.proofs.WrittenLemmas as written
use Rattle.mb_model_laws.proofs.segments.written_flashes_hold_what_was_written.Goals as goal

pub returns-clause-entry : goal.returns-clause-entry
returns-clause-entry c = held.holds_entry

pub returns-clause-bytes : goal.returns-clause-bytes
returns-clause-bytes c = written.entry_has_bytes

pub returns-clause-whole : goal.returns-clause-whole
returns-clause-whole c = written.written_is_whole

pub returns-clause-holds : goal.returns-clause-holds
returns-clause-holds c = written.written_holds
