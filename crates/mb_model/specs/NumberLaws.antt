-- The numbers of the code, each written out. Is a limit or a domain separator another than the one that is believed?
use Rattle.std.specs.Prelude.{◌≡◌, [], ◌∷◌}
use Rattle.mb_model.specs.declared.limits.TheConstants.{FLASH_LENGTH, BBRAM_LENGTH, IMAGE_LENGTH, SECTOR_LENGTH}
use Rattle.mb_model.specs.declared.limits.TheConstants.{SECTOR_COUNT, AREA_LENGTH, RECORD_LIMIT, FILE_LIMIT}
use Rattle.mb_model.specs.declared.limits.TheConstants.{CODE_LIMIT, TARGET_LIMIT, SIGNATURE_LIMIT, SIGNATURE_LENGTH}
use Rattle.mb_model.specs.declared.limits.TheConstants.{KEY_USES, LAST_INDEX, ENTRY_LIMIT, ENTRY_TEXT_LIMIT}
use Rattle.mb_model.specs.declared.limits.TheConstants.{STATEMENT_LIMIT, REGION_LIMIT, REGION_VERSION, SECRET_LIMIT}
use Rattle.mb_model.specs.declared.limits.TheConstants.{SECRET_LIMIT_VERSION_1, KEY_LIMIT, NAME_LIMIT, VALUE_LIMIT}
use Rattle.mb_model.specs.declared.limits.TheConstants.{MESSAGE_LIMIT, DRAW_LENGTH, EVENT_LIMIT, CUT_LIMIT}
use Rattle.mb_model.specs.declared.limits.TheConstants.{FILL_LIMIT, WRITE_LIMIT}
use Rattle.mb_model.specs.declared.separators.TheConstants.{ORDER_TEXT, COUNTERSIGNED_TEXT, ENTRY_TEXT}
use Rattle.mb_model.specs.declared.separators.TheConstants.{STATEMENT_TEXT, KEY_SECRET, KEY_IDENTIFIER}
use Rattle.mb_model.specs.declared.separators.TheConstants.{OFFICER_SECRET, OFFICER_IDENTIFIER, LEVEL_SECRET}
use Rattle.mb_model.specs.declared.separators.TheConstants.{LEVEL_IDENTIFIER, MAKER_SECRET, ONE_TIME_KEY_MARK}
use Rattle.mb_model.specs.declared.separators.TheConstants.{MESSAGE_MARK, LEAF_MARK, INNER_MARK}

-- sizes of the device, and limits of what is read and stored
pub record LimitsAre : Type 0 where
  pub flash_length : FLASH_LENGTH ≡ 1048576
  pub bbram_length : BBRAM_LENGTH ≡ 28672
  pub image_length : IMAGE_LENGTH ≡ 1077248
  pub sector_length : SECTOR_LENGTH ≡ 4096
  pub sector_count : SECTOR_COUNT ≡ 256
  pub area_length : AREA_LENGTH ≡ 4096
  pub record_limit : RECORD_LIMIT ≡ 4094
  pub file_limit : FILE_LIMIT ≡ 4194304
  pub code_limit : CODE_LIMIT ≡ 32768
  pub target_limit : TARGET_LIMIT ≡ 8
  pub signature_limit : SIGNATURE_LIMIT ≡ 9324
  pub signature_length : SIGNATURE_LENGTH ≡ 2348
  pub key_uses : KEY_USES ≡ 32
  pub last_index : LAST_INDEX ≡ 31
  pub entry_limit : ENTRY_LIMIT ≡ 128
  pub entry_text_limit : ENTRY_TEXT_LIMIT ≡ 400
  pub statement_limit : STATEMENT_LIMIT ≡ 2514
  pub region_limit : REGION_LIMIT ≡ 4087
  pub region_version : REGION_VERSION ≡ 2
  pub secret_limit : SECRET_LIMIT ≡ 22
  pub secret_limit_version_1 : SECRET_LIMIT_VERSION_1 ≡ 16
  pub key_limit : KEY_LIMIT ≡ 8
  pub name_limit : NAME_LIMIT ≡ 32
  pub value_limit : VALUE_LIMIT ≡ 128
  pub message_limit : MESSAGE_LIMIT ≡ 128
  pub draw_length : DRAW_LENGTH ≡ 32
  pub event_limit : EVENT_LIMIT ≡ 65536
  pub cut_limit : CUT_LIMIT ≡ 100000
  pub fill_limit : FILL_LIMIT ≡ 16
  pub write_limit : WRITE_LIMIT ≡ 35

-- domain separators: bytes in what is hashed or signed
pub record SeparatorsAre : Type 0 where
  pub order_text : ORDER_TEXT ≡ 0x01
  pub countersigned_text : COUNTERSIGNED_TEXT ≡ 0x02
  pub entry_text : ENTRY_TEXT ≡ 0x03
  pub statement_text : STATEMENT_TEXT ≡ 0x04
  pub key_secret : KEY_SECRET ≡ 0x10
  pub key_identifier : KEY_IDENTIFIER ≡ 0x11
  pub officer_secret : OFFICER_SECRET ≡ 0x12
  pub officer_identifier : OFFICER_IDENTIFIER ≡ 0x13
  pub level_secret : LEVEL_SECRET ≡ 0x14
  pub level_identifier : LEVEL_IDENTIFIER ≡ 0x15
  pub maker_secret : MAKER_SECRET ≡ 0x16
  pub one_time_key_mark : ONE_TIME_KEY_MARK ≡ 0x80 ∷ 0x80 ∷ []
  pub message_mark : MESSAGE_MARK ≡ 0x81 ∷ 0x81 ∷ []
  pub leaf_mark : LEAF_MARK ≡ 0x82 ∷ 0x82 ∷ []
  pub inner_mark : INNER_MARK ≡ 0x83 ∷ 0x83 ∷ []
