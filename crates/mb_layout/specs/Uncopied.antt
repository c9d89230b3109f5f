-- What was read and not copied. Which value does it mean?
use Rattle.mb_model.specs.declared.region.Secret.{Secret}
use Rattle.mb_layout.specs.declared.region.StoredSecret.{StoredSecret}

abbrev pub secret_in : StoredSecret → Secret
secret_in stored = record { name = stored.name.now; value = stored.value.now; born = stored.born }
