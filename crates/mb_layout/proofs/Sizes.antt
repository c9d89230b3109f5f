-- A record that has a spelling keeps the bounds on sizes.
use Rattle.std.proofs.Common.{ℕ, zero, suc, ◌<◌, List, [], ◌∷◌, length, get_or, ap, arith}
use Rattle.mb_format.specs.Format.{Format}
use Rattle.mb_format.specs.Combinators.{items, times}
use Rattle.mb_model.specs.declared.region.RegionKey.{RegionKey}
use Rattle.mb_model.specs.records.RootFormat.{region_key_format}
use Rattle.mb_model.specs.declared.region.Secret.{Secret}
use Rattle.mb_model.specs.declared.region.Region.{Region}
use Rattle.mb_model.specs.records.RegionFormat.{secret_format, secrets_format, keys_format, region_by, region_format}
use Rattle.mb_model.proofs.RecordFormatLaws.{few_secrets}
use Rattle.mb_layout.specs.Bounds.{HasByteUses, SecretFits, RegionFits}

pub key_fits : (key : RegionKey) → region_key_format.Allowed key → HasByteUses key
unfolding region_key_format
key_fits key h = omega (arith, h.1.1.1.1)

-- ---- regions

secret_fits : (secret : Secret) → secret_format.Allowed secret → SecretFits secret
unfolding secret_format
secret_fits secret h = record { name = omega (arith, h.0.0.1); value = omega (arith, h.1.0.0.1) }

-- what each allowed item has, each item of an allowed list has
all_of : {A : Type 0} (item : Format A) (Fits : A → Type 0) → ((a : A) → item.Allowed a → Fits a) → (n : ℕ) (xs : List A) → (times n item).Allowed xs → (k : ℕ) (d : A) → k < length xs → Fits (get_or xs k d)
unfolding items
all_of item Fits one zero xs h k d lt = absurd (omega (arith, ap length h, lt))
all_of item Fits one (suc n) [] h k d lt = absurd h
all_of item Fits one (suc n) (x ∷ xs) h zero d lt = one x h.0
all_of item Fits one (suc n) (x ∷ xs) h (suc k) d lt = all_of item Fits one n xs h.1 k d (omega arith)

pub region_fits : (version : ℕ) (region : Region) → region_format.Allowed (version, region) → RegionFits region
unfolding region_format region_by secrets_format keys_format
region_fits version region h = record {
  secrets = omega (arith, h.1.0.0.1, few_secrets version);
  each_secret = λ k d lt. all_of secret_format SecretFits secret_fits (length region.secrets) region.secrets h.1.0.1 k d lt;
  keys = omega (arith, h.1.1.0.1);
  each_key = λ k d lt. all_of region_key_format HasByteUses key_fits (length region.keys) region.keys h.1.1.1 k d lt;
}
