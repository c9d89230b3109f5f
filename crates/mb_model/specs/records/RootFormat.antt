-- How the root record is spelled, where a device keeps its own key and its pending work. What does a device know when
-- power comes back?
use Rattle.std.specs.Prelude.{ℕ, List, [], ◌∷◌, Option, Some, None}
use Rattle.std.specs.Int.{w8, w32}
use Rattle.mb_format.specs.Format.{Format}
use Rattle.mb_format.specs.Combinators.{raw, number, between, table, mark, nothing, optional}
use Rattle.mb_format.specs.Combinators.{pair, as_value, as_record, led, then_value}
use Rattle.mb_model.specs.declared.limits.TheConstants.{KEY_USES}
use Rattle.mb_model.specs.declared.region.RegionKey.{RegionKey}
use Rattle.mb_model.specs.declared.stored.Outgoing.{Outgoing}
use Rattle.mb_model.specs.declared.stored.Fate.{Fate}
use Rattle.mb_model.specs.declared.stored.Fate.TheVariants.{Keep, Empty, DropConfiguration, AddKey}
use Rattle.mb_model.specs.declared.stored.Pending.{Pending}
use Rattle.mb_model.specs.declared.stored.Root.{Root}
use Rattle.mb_model.specs.records.KeyFormat.{key_seed_format}
use Rattle.mb_model.specs.records.EntryFormat.{key_kind_format}

-- a key of a region: its number, its kind, its seed, and how many of its 32 indices are used
unfoldable pub region_key_format : Format RegionKey
region_key_format = as_record (pair (number w32) (pair key_kind_format (pair key_seed_format (between w8 0 KEY_USES))))
    (λ (number, (kind, (seed, uses))). record { number = number; kind = kind; seed = seed; uses = uses })
    (λ key. (key.number, (key.kind, (key.seed, key.uses))))

-- ---- pending work

-- the device key that gives way: its seed and its uses
unfoldable pub outgoing_format : Format Outgoing
outgoing_format = as_record (pair key_seed_format (between w8 1 KEY_USES))
    (λ (seed, uses). record { seed = seed; uses = uses })
    (λ outgoing. (outgoing.seed, outgoing.uses))

pub data FateTag : Type 0 where
  keep_tag empty_tag drop_tag add_tag : FateTag

abbrev pub fate_byte : FateTag → ℕ
fate_byte keep_tag = 0
fate_byte empty_tag = 1
fate_byte drop_tag = 2
fate_byte add_tag = 3

abbrev pub fate_rows : List (ℕ × FateTag)
fate_rows = (0, keep_tag) ∷ (1, empty_tag) ∷ (2, drop_tag) ∷ (3, add_tag) ∷ []

abbrev pub fate_tag : Fate → FateTag
fate_tag Keep = keep_tag
fate_tag Empty = empty_tag
fate_tag DropConfiguration = drop_tag
fate_tag (AddKey key) = add_tag

abbrev pub key_added_by : Fate → Option RegionKey
key_added_by (AddKey key) = Some key
key_added_by _ = None

-- what follows a fate's tag: the key that is added, if one is
abbrev pub fate_by : FateTag → Format Fate
fate_by keep_tag = nothing Keep
fate_by empty_tag = nothing Empty
fate_by drop_tag = nothing DropConfiguration
fate_by add_tag = as_value region_key_format AddKey key_added_by

unfoldable pub fate_format : Format Fate
fate_format = led (table w8 fate_rows fate_byte) fate_tag fate_by

-- pending work: how many entries are unsigned, the outgoing key if there is one, what becomes of regions 2 and 3
unfoldable pub pending_format : Format Pending
pending_format = as_record (pair (between w8 1 2) (pair (optional outgoing_format) (pair fate_format fate_format)))
    (λ (unsigned, (outgoing, (two, three))). record {
      unsigned = unsigned;
      outgoing = outgoing;
      two = two;
      three = three;
    })
    (λ pending. (pending.unsigned, (pending.outgoing, (pending.two, pending.three))))

-- ---- the record

-- The root record: its version, the current flash area, the serial, the device key and its uses, and the pending work
-- if there is any.
unfoldable pub root_format : Format Root
root_format = then_value (mark (1 ∷ [])) (as_record
    (pair (between w8 0 1)  -- area
    (pair (raw 16)  -- serial
    (pair key_seed_format  -- device
    (pair (between w8 0 KEY_USES)  -- uses
    (optional pending_format)))))  -- pending
    (λ (area, (serial, (device, (uses, pending)))). record {
      area = area;
      serial = serial;
      device = device;
      uses = uses;
      pending = pending;
    })
    (λ root. (root.area, (root.serial, (root.device, (root.uses, root.pending))))))
