use Rattle.mb_model_memory.proofs.StorableRecords as lemmas
use Rattle.mb_model_memory.proofs.storable.storable_states_have_records.Goals as goal

pub returns : goal.returns
returns c = record {
  root = lemmas.resting_root;
  committed_root = lemmas.committed_root;
  public_record = lemmas.resting_public;
  committed_public = lemmas.committed_public;
  region = lemmas.region_written;
  image = lemmas.image_fits;
  root_room = lemmas.root_room;
  public_room = lemmas.public_room;
}
