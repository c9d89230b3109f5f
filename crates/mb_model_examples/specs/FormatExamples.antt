-- The formats at work on short bytes; the checker computes each line. Do the formats say what their tables say?
use Rattle.mb_model.specs.owners.Layers.{equal_trusts}
use Rattle.std.specs.Prelude.{◌≡◌, ℕ, List, [], ◌∷◌, ◌++◌}
use Rattle.mb_format.specs.Format.{FailsWhole}
use Rattle.mb_model.specs.declared.key.Tree.TheVariants.{H5}
use Rattle.mb_model.specs.declared.key.Chains.TheVariants.{W4}
use Rattle.mb_model.specs.declared.key.Trust.TheVariants.{Never}
use Rattle.mb_model.specs.declared.order.Act.TheVariants as act
use Rattle.mb_model.specs.declared.order.KeyKind.TheVariants as kinds
use Rattle.mb_model.specs.declared.order.Target.TheVariants as target
use Rattle.mb_model.specs.records.KeyFormat.{public_key_format}
use Rattle.mb_model.specs.records.OrderFormat.{body_format, order_format}
use Rattle.mb_model.specs.records.ChainFormat.{chain_format}
use Rattle.mb_model.specs.records.RegionFormat.{region_format}

-- the body of the surrender of layer 2, if the log has 7 entries
abbrev pub surrender_bytes : List ℕ
surrender_bytes = 2 ∷ 2 ∷ 1 ∷ 2 ∷ 0 ∷ 0 ∷ 0 ∷ 7 ∷ []

-- how values are spelled
pub record SpellingExamples : Type 0 where
  -- the types come first
  pub public_key : (identifier root : List ℕ)
      → public_key_format.spelling (record { tree = H5; chains = W4; identifier = identifier; root = root })
      ≡ 0 ∷ 0 ∷ 0 ∷ 5 ∷ 0 ∷ 0 ∷ 0 ∷ 3 ∷ identifier ++ root
  pub surrender : body_format.spelling (record { layer = 2; targets = target.Length 7 ∷ []; act = act.Surrender })
      ≡ surrender_bytes
  pub new_key : body_format.spelling (record { layer = 3; targets = []; act = act.NewKey kinds.Configuration })
      ≡ 5 ∷ 3 ∷ 0 ∷ 1 ∷ []
  -- version 258, trust never, a code of three bytes
  pub load : body_format.spelling (record {
    layer = 3;
    targets = [];
    act = act.Load (record { version = 258; trust = equal_trusts Never; code = 0x61 ∷ 0x62 ∷ 0x63 ∷ [] });
  })
      ≡ 3 ∷ 3 ∷ 0 ∷ 0 ∷ 0 ∷ 1 ∷ 2 ∷ 1 ∷ 0 ∷ 0 ∷ 0 ∷ 3 ∷ 0x61 ∷ 0x62 ∷ 0x63 ∷ []

-- a load of layer 1 without code or signature, which announces two countersignatures and names the layer of the first
abbrev pub countersigned_first_by : ℕ → List ℕ
countersigned_first_by m = 3 ∷ 1 ∷ 0 ∷ 0 ∷ 0 ∷ 0 ∷ 1 ∷ 0 ∷ 0 ∷ 0 ∷ 0 ∷ 0 ∷ 0 ∷ 0 ∷ 2 ∷ m ∷ []

-- where bytes fail
pub record FailingExamples : Type 0 where
  -- a surrender has no countersignatures
  pub countersigned_surrender : FailsWhole order_format (surrender_bytes ++ 0 ∷ 0 ∷ 1 ∷ []) 10
  -- nothing follows an order
  pub left_over : FailsWhole order_format (surrender_bytes ++ 0 ∷ 0 ∷ 0 ∷ 9 ∷ []) 11
  -- if two countersign layer 1, the first is layer 2: with layer 3 it fails at that byte, with layer 2 after it
  pub three_first : FailsWhole order_format (countersigned_first_by 3) 15
  pub two_first : FailsWhole order_format (countersigned_first_by 2) 16
  -- layer 1 takes no surrender
  pub surrender_one : FailsWhole order_format (2 ∷ 1 ∷ 0 ∷ 0 ∷ 0 ∷ 0 ∷ []) 1
  -- a region with neither secret nor key has no record: it fails at the number of keys
  pub empty_region : FailsWhole region_format (1 ∷ 0 ∷ 0 ∷ []) 2
  -- a chain begins with its word, and has an entry
  pub other_word : FailsWhole chain_format (0x4D ∷ 0x42 ∷ 0x4B ∷ 0x31 ∷ 0 ∷ 1 ∷ []) 0
  pub no_entries : FailsWhole chain_format (0x4D ∷ 0x42 ∷ 0x43 ∷ 0x31 ∷ 0 ∷ 0 ∷ 0 ∷ []) 4
