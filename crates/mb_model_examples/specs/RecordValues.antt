-- Values, and the bytes that spell them, as an independent program wrote them. Each key is named by the byte that fills
-- its identifier; the byte after it fills its root, or its secret.
use Rattle.std.specs.Prelude.{ℕ, ◌+◌, true, false, List, [], ◌∷◌, ◌++◌, replicate, codes, Some, None, Result, Ok, Err}
use Rattle.hex.specs.Hex.{decode_of}
use Rattle.hex.specs.declared.error.FromHexError.{FromHexError}
use Rattle.mb_model.specs.declared.key.PublicKey.{PublicKey}
use Rattle.mb_model.specs.declared.key.KeySeed.{KeySeed}
use Rattle.mb_model.specs.declared.key.Tree.TheVariants.{H5}
use Rattle.mb_model.specs.declared.key.Chains.TheVariants.{W4}
use Rattle.mb_model.specs.declared.key.Trust.TheVariants.{Always, Never, Countersigned}
use Rattle.mb_model.specs.declared.layer.Layer.{Layer}
use Rattle.mb_model.specs.declared.layer.Layers.{Layers}
use Rattle.mb_model.specs.declared.order.ChangeKind.TheVariants.{Load, Emergency}
use Rattle.mb_model.specs.declared.order.KeyKind.TheVariants.{Epoch, Configuration}
use Rattle.mb_model.specs.declared.entry.Entry.{Entry}
use Rattle.mb_model.specs.declared.entry.Entry.TheVariants.{Birth, Change, NewKey, Succession}
use Rattle.mb_model.specs.declared.entry.Said.TheVariants.{Message, Answer}
use Rattle.mb_model.specs.declared.entry.Statement.{Statement}
use Rattle.mb_model.specs.declared.entry.Chain.{Chain}
use Rattle.mb_model.specs.declared.region.RegionKey.{RegionKey}
use Rattle.mb_model.specs.declared.region.Region.{Region}
use Rattle.mb_model.specs.declared.stored.Fate.TheVariants.{Keep, Empty, DropConfiguration, AddKey}
use Rattle.mb_model.specs.declared.stored.Root.{Root}
use Rattle.mb_model.specs.declared.stored.Public.{Public}
use Rattle.mb_model.specs.declared.tools.Keyfile.{Keyfile}
use Rattle.mb_model.specs.declared.order.Act.TheVariants as act
use Rattle.mb_model.specs.declared.order.Target.TheVariants.{Serial, Length, Owner, Code}
use Rattle.mb_model.specs.records.OrderFormat.{Body}
use Rattle.mb_model.specs.owners.Layers.{equal_trusts, layer_without_owner}
use Rattle.mb_model_examples.specs.RuleExamples.{layers_with, by_two, by_three, by_both}

-- the bytes that hexadecimal digits spell
abbrev decoded_digits : Result (List ℕ) FromHexError → List ℕ
decoded_digits (Ok bytes) = bytes
decoded_digits (Err error) = []

abbrev pub bytes_of : List ℕ → List ℕ
bytes_of digits = decoded_digits (decode_of digits)

-- ---- keys

abbrev pub key_named : ℕ → PublicKey
key_named n = record { tree = H5; chains = W4; identifier = replicate 16 n; root = replicate 32 (n + 1) }

abbrev pub seed_named : ℕ → KeySeed
seed_named n = record { identifier = replicate 16 n; seed = replicate 32 (n + 1) }

-- an officer's key that was derived from the noise 0, 1, .., 31
abbrev pub noise_digits : List ℕ
noise_digits = codes "000102030405060708090a0b0c0d0e0f101112131415161718191a1b1c1d1e1f"

abbrev pub officer_file : Keyfile
officer_file =
    record {
      seed = record {
        identifier = bytes_of (codes "f5d541e6c1f5736fac8d67703916a7e4");
        seed = bytes_of (codes "b7b94ea512bd312bfcd9eedbebef91090a23420ddbc50323fc7193e510217f8c");
      };
      next = 0;
    }

abbrev pub officer_file_digits : List ℕ
officer_file_digits =
    codes "4d424b31f5d541e6c1f5736fac8d67703916a7e4"
    ++ codes "b7b94ea512bd312bfcd9eedbebef91090a23420ddbc50323fc7193e510217f8c00000000"

-- the public key of that officer
abbrev pub officer_public : PublicKey
officer_public =
    record {
      tree = H5;
      chains = W4;
      identifier = bytes_of (codes "f5d541e6c1f5736fac8d67703916a7e4");
      root = bytes_of (codes "3b6ec035344e351fe5527a7c1f6b590c34bc0a1eca4c29075b6155648ccc2b87");
    }

abbrev pub officer_public_digits : List ℕ
officer_public_digits =
    codes "0000000500000003f5d541e6c1f5736fac8d67703916a7e4"
    ++ codes "3b6ec035344e351fe5527a7c1f6b590c34bc0a1eca4c29075b6155648ccc2b87"

-- ---- layers

abbrev pub reliable_layer : Layer
reliable_layer =
    record {
      owner = Some (key_named 0x11);
      code = Some (record { hash = replicate 32 0x13; version = 258 });
      reliable = true;
      trust = equal_trusts Always;
    }

abbrev pub reliable_layer_digits : List ℕ
reliable_layer_digits =
    codes "0700000000050000000311111111111111111111111111111111"
    ++ codes "1212121212121212121212121212121212121212121212121212121212121212"
    ++ codes "131313131313131313131313131313131313131313131313131313131313131300000102"

abbrev pub doubted_layer : Layer
doubted_layer =
    record {
      owner = Some (key_named 0x21);
      code = Some (record { hash = replicate 32 0x23; version = 7 });
      reliable = false;
      trust = equal_trusts Countersigned;
    }

abbrev pub doubted_layer_digits : List ℕ
doubted_layer_digits =
    codes "0302000000050000000321212121212121212121212121212121"
    ++ codes "2222222222222222222222222222222222222222222222222222222222222222"
    ++ codes "232323232323232323232323232323232323232323232323232323232323232300000007"

abbrev pub bare_layer : Layer
bare_layer =
    record { owner = Some (key_named 0x31); code = None; reliable = false; trust = equal_trusts Always }

abbrev pub bare_layer_digits : List ℕ
bare_layer_digits =
    codes "0100000000050000000331313131313131313131313131313131"
    ++ codes "3232323232323232323232323232323232323232323232323232323232323232"

abbrev pub three_layers : Layers
three_layers = layers_with reliable_layer doubted_layer bare_layer

-- ---- entries

abbrev pub birth : Entry
birth =
    Birth 1 (replicate 16 0x41) (key_named 0x43) (layers_with reliable_layer layer_without_owner layer_without_owner)

abbrev pub birth_digits : List ℕ
birth_digits =
    codes "0041414141414141414141414141414141000000050000000343434343434343434343434343434343"
    ++ codes "444444444444444444444444444444444444444444444444444444444444444407000000000500000003"
    ++ codes "111111111111111111111111111111111212121212121212121212121212121212121212121212121212121212121212"
    ++ codes "13131313131313131313131313131313131313131313131313131313131313130000010200010001"

-- position 5, number 4; layer 3 countersigned, and region 2 is kept
abbrev pub load_of_one : Entry
load_of_one = Change 1 5 4 Load 1 by_three three_layers by_two (Some (key_named 0x45))

abbrev pub load_of_one_digits : List ℕ
load_of_one_digits =
    codes "010000000500000004030102010700000000050000000311111111111111111111111111111111"
    ++ codes "1212121212121212121212121212121212121212121212121212121212121212"
    ++ codes "13131313131313131313131313131313131313131313131313131313131313130000010203020000000500000003"
    ++ codes "212121212121212121212121212121212222222222222222222222222222222222222222222222222222222222222222"
    ++ codes "23232323232323232323232323232323232323232323232323232323232323230000000701000000000500000003"
    ++ codes "31313131313131313131313131313131323232323232323232323232323232323232323232323232323232323232323201"
    ++ codes "000000050000000345454545454545454545454545454545"
    ++ codes "4646464646464646464646464646464646464646464646464646464646464646"

-- position 6, number 5; layer 3 countersigned, and both regions are kept
abbrev pub emergency_of_two : Entry
emergency_of_two = Change 1 6 5 Emergency 2 by_three three_layers by_both None

abbrev pub emergency_of_two_digits : List ℕ
emergency_of_two_digits =
    codes "010000000600000005040202030700000000050000000311111111111111111111111111111111"
    ++ codes "1212121212121212121212121212121212121212121212121212121212121212"
    ++ codes "13131313131313131313131313131313131313131313131313131313131313130000010203020000000500000003"
    ++ codes "212121212121212121212121212121212222222222222222222222222222222222222222222222222222222222222222"
    ++ codes "23232323232323232323232323232323232323232323232323232323232323230000000701000000000500000003"
    ++ codes "31313131313131313131313131313131323232323232323232323232323232323232323232323232323232323232323200"

-- position 7, number 5, key number 9
abbrev pub new_key_entry : Entry
new_key_entry = NewKey 7 5 9 3 Configuration (key_named 0x47)

abbrev pub new_key_digits : List ℕ
new_key_digits =
    codes "020000000700000005000000090301000000050000000347474747474747474747474747474747"
    ++ codes "4848484848484848484848484848484848484848484848484848484848484848"

-- position 8
abbrev pub succession : Entry
succession = Succession 8 (key_named 0x49)

abbrev pub succession_digits : List ℕ
succession_digits =
    codes "0300000008000000050000000349494949494949494949494949494949"
    ++ codes "4a4a4a4a4a4a4a4a4a4a4a4a4a4a4a4a4a4a4a4a4a4a4a4a4a4a4a4a4a4a4a4a"

-- ---- layers and entries of version 2

-- a layer that trusts loads of layer 1 always and loads of layer 2 never
abbrev pub split_layer : Layer
split_layer =
    record {
      owner = Some (key_named 0x21);
      code = Some (record { hash = replicate 32 0x23; version = 7 });
      reliable = false;
      trust = record { one = Always; two = Never };
    }

abbrev pub split_layer_digits : List ℕ
split_layer_digits =
    codes "0300010000000500000003212121212121212121212121212121212222222222222222222222222222222222222222"
    ++ codes "2222222222222222222222222323232323232323232323232323232323232323232323232323232323232323000000"
    ++ codes "07"

abbrev pub wary_layer : Layer
wary_layer =
    record { owner = Some (key_named 0x31); code = None; reliable = false; trust = equal_trusts Countersigned }

abbrev pub wary_layer_digits : List ℕ
wary_layer_digits =
    codes "0102020000000500000003313131313131313131313131313131313232323232323232323232323232323232323232"
    ++ codes "323232323232323232323232"

abbrev pub birth_of_version_two : Entry
birth_of_version_two =
    Birth 2 (replicate 16 0x41) (key_named 0x43) (layers_with reliable_layer layer_without_owner layer_without_owner)

abbrev pub birth_of_version_two_digits : List ℕ
birth_of_version_two_digits =
    codes "1041414141414141414141414141414141000000050000000343434343434343434343434343434343444444444444"
    ++ codes "4444444444444444444444444444444444444444444444444444070000000000050000000311111111111111111111"
    ++ codes "1111111111111212121212121212121212121212121212121212121212121212121212121212131313131313131313"
    ++ codes "131313131313131313131313131313131313131313131300000102000101000101"

-- position 5, number 4; layer 3 countersigned, and region 2 is kept
abbrev pub load_of_version_two : Entry
load_of_version_two =
    Change 2 5 4 Load 1 by_three (layers_with reliable_layer split_layer wary_layer) by_two (Some (key_named 0x45))

abbrev pub load_of_version_two_digits : List ℕ
load_of_version_two_digits =
    codes "1100000005000000040301020107000000000005000000031111111111111111111111111111111112121212121212"
    ++ codes "1212121212121212121212121212121212121212121212121213131313131313131313131313131313131313131313"
    ++ codes "1313131313131313131300000102030001000000050000000321212121212121212121212121212121222222222222"
    ++ codes "2222222222222222222222222222222222222222222222222222232323232323232323232323232323232323232323"
    ++ codes "2323232323232323232323000000070102020000000500000003313131313131313131313131313131313232323232"
    ++ codes "3232323232323232323232323232323232323232323232323232320100000005000000034545454545454545454545"
    ++ codes "45454545454646464646464646464646464646464646464646464646464646464646464646"

-- ---- root records

-- a root with nothing pending
abbrev pub settled_root_value : Root
settled_root_value =
    record { area = 1; serial = replicate 16 0x41; device = seed_named 0x55; uses = 17; pending = None }

abbrev pub settled_root_digits : List ℕ
settled_root_digits =
    codes "01014141414141414141414141414141414155555555555555555555555555555555"
    ++ codes "56565656565656565656565656565656565656565656565656565656565656561100"

abbrev pub key_nine : RegionKey
key_nine = record { number = 9; kind = Configuration; seed = seed_named 0x51; uses = 3 }

-- two entries are unsigned, a device key gives way, and both regions have work to be done
abbrev pub busy_root : Root
busy_root =
    record {
      area = 0;
      serial = replicate 16 0x41;
      device = seed_named 0x55;
      uses = 1;
      pending = Some (record {
        unsigned = 2;
        outgoing = Some (record { seed = seed_named 0x53; uses = 31 });
        two = DropConfiguration;
        three = AddKey key_nine;
      });
    }

abbrev pub busy_root_digits : List ℕ
busy_root_digits =
    codes "01004141414141414141414141414141414155555555555555555555555555555555"
    ++ codes "565656565656565656565656565656565656565656565656565656565656565601010201"
    ++ codes "5353535353535353535353535353535354545454545454545454545454545454545454545454545454545454545454541f02"
    ++ codes "03000000090151515151515151515151515151515151"
    ++ codes "525252525252525252525252525252525252525252525252525252525252525203"

-- one entry is unsigned, and region 3 is to be emptied
abbrev pub small_root : Root
small_root =
    record {
      area = 0;
      serial = replicate 16 0x41;
      device = seed_named 0x55;
      uses = 6;
      pending = Some (record { unsigned = 1; outgoing = None; two = Keep; three = Empty });
    }

abbrev pub small_root_digits : List ℕ
small_root_digits =
    codes "01004141414141414141414141414141414155555555555555555555555555555555"
    ++ codes "5656565656565656565656565656565656565656565656565656565656565656060101000001"

-- ---- regions

-- two secrets, the second empty, and two keys
abbrev pub region_of_both : Region
region_of_both =
    record {
      secrets =
          record { name = codes "pin"; value = codes "1234"; born = 258 }
          ∷ record { name = codes "t"; value = []; born = 3 }
          ∷ [];
      keys = record { number = 2; kind = Epoch; seed = seed_named 0x57; uses = 32 } ∷ key_nine ∷ [];
    }

abbrev pub region_of_both_digits : List ℕ
region_of_both_digits =
    codes "01020370696e0431323334000001020174000000000302000000020057575757575757575757575757575757"
    ++ codes "5858585858585858585858585858585858585858585858585858585858585858200000000901"
    ++ codes "51515151515151515151515151515151525252525252525252525252525252525252525252525252525252525252525203"

abbrev pub region_of_a_key : Region
region_of_a_key = record { secrets = []; keys = key_nine ∷ [] }

abbrev pub region_of_a_key_digits : List ℕ
region_of_a_key_digits =
    codes "010001000000090151515151515151515151515151515151"
    ++ codes "525252525252525252525252525252525252525252525252525252525252525203"

-- an area of battery-backed memory with `region_of_a_key`: its first 64 bytes, and zeros up to 4,096
abbrev pub area_of_a_key : List ℕ
area_of_a_key =
    bytes_of (codes "0039" ++ region_of_a_key_digits ++ codes "0000000000") ++ replicate 4032 0

-- ---- what a device hands out

abbrev pub statement : Statement
statement = record { number = 5; said = Message (codes "hello"); signature = replicate 2348 0x63 }

abbrev pub statement_bytes : List ℕ
statement_bytes = bytes_of (codes "000000050568656c6c6f") ++ replicate 2348 0x63

-- what key 9 signed of the statement
abbrev pub statement_text_digits : List ℕ
statement_text_digits = codes "0441414141414141414141414141414141000000090000000568656c6c6f"

-- the hash of the input `pin`
abbrev pub hash_of_pin_digits : List ℕ
hash_of_pin_digits = codes "64f46a7526a186d2346552453ae478ca51244674f5b21ba150bd483b39f7c812"

-- a statement of a call: the answer `hello` to the input `pin`
abbrev pub answer_statement : Statement
answer_statement = record {
  number = 5;
  said = Answer (bytes_of hash_of_pin_digits) (codes "hello");
  signature = replicate 2348 0x63;
}

abbrev pub answer_statement_bytes : List ℕ
answer_statement_bytes =
    bytes_of (codes "0000000581" ++ hash_of_pin_digits ++ codes "0568656c6c6f") ++ replicate 2348 0x63

-- what key 9 signed of it
abbrev pub answer_text_digits : List ℕ
answer_text_digits =
    codes "06414141414141414141414141414141410000000900000005" ++ hash_of_pin_digits ++ codes "68656c6c6f"

abbrev pub chain_example : Chain
chain_example =
    record {
      entries =
          record { entry = birth; signature = replicate 2348 0x61 }
          ∷ record { entry = new_key_entry; signature = replicate 2348 0x62 }
          ∷ [];
      statement = Some statement;
    }

-- the word MBC1, two entries with their signatures, and a statement
abbrev pub chain_bytes : List ℕ
chain_bytes =
    bytes_of (codes "4d424331" ++ codes "0002" ++ birth_digits) ++ replicate 2348 0x61
    ++ bytes_of new_key_digits ++ replicate 2348 0x62
    ++ 1 ∷ statement_bytes

-- ---- the public record

-- layers 1 and 3 have code; two entries are signed, and the last is not
abbrev pub stored : Public
stored =
    record {
      codes = record { one = Some (0x0A ∷ []); two = None; three = Some (codes "abc") };
      entries =
          record { entry = birth; signature = Some (replicate 2348 0x61) }
          ∷ record { entry = new_key_entry; signature = Some (replicate 2348 0x62) }
          ∷ record { entry = succession; signature = None }
          ∷ [];
    }

abbrev pub stored_bytes : List ℕ
stored_bytes =
    bytes_of (codes "01" ++ codes "01000000010a" ++ codes "00" ++ codes "0100000003616263" ++ codes "0003")
    ++ bytes_of birth_digits ++ 1 ∷ replicate 2348 0x61
    ++ bytes_of new_key_digits ++ 1 ∷ replicate 2348 0x62
    ++ bytes_of succession_digits ++ 0 ∷ []

-- ---- the signed part of orders

abbrev pub surrender_body : Body
surrender_body = record { layer = 2; targets = Length 7 ∷ []; act = act.Surrender }

abbrev pub new_key_body : Body
new_key_body = record { layer = 3; targets = []; act = act.NewKey Configuration }

abbrev pub load_three_body : Body
load_three_body =
    record {
      layer = 3;
      targets = [];
      act = act.Load (record { version = 258; trust = equal_trusts Never; code = codes "abc" });
    }

abbrev pub load_one_body : Body
load_one_body =
    record {
      layer = 1;
      targets = Length 5 ∷ Serial (bytes_of (codes "000102030405060708090a0b0c0d0e0f")) ∷ [];
      act = act.Load (record { version = 2; trust = equal_trusts Countersigned; code = [] });
    }

abbrev pub load_one_body_digits : List ℕ
load_one_body_digits = codes "030102020000000501000102030405060708090a0b0c0d0e0f000000020200000000"

abbrev pub emergency_body : Body
emergency_body =
    record {
      layer = 2;
      targets = Owner 1 (replicate 32 0x11) ∷ Code 3 (replicate 32 0x22) ∷ [];
      act = act.Emergency (record { version = 4294967295; trust = equal_trusts Always; code = 0 ∷ 0xFF ∷ [] });
    }

-- a load that gives two trusts which differ
abbrev pub split_load_body : Body
split_load_body =
    record {
      layer = 3;
      targets = [];
      act = act.Load (record { version = 258; trust = record { one = Always; two = Never }; code = codes "abc" });
    }

abbrev pub split_load_body_digits : List ℕ
split_load_body_digits = codes "13030000000102000100000003616263"

abbrev pub split_establish_body : Body
split_establish_body =
    record {
      layer = 3;
      targets = [];
      act = act.Establish (key_named 0x31) (record { one = Always; two = Never });
    }

abbrev pub split_establish_body_digits : List ℕ
split_establish_body_digits =
    codes "110300000000050000000331313131313131313131313131313131"
    ++ codes "32323232323232323232323232323232323232323232323232323232323232320001"

abbrev pub split_emergency_body : Body
split_emergency_body =
    record {
      layer = 2;
      targets = Length 7 ∷ [];
      act = act.Emergency (record { version = 1; trust = record { one = Countersigned; two = Always }; code = [] });
    }

abbrev pub split_emergency_body_digits : List ℕ
split_emergency_body_digits = codes "140201020000000700000001020000000000"

abbrev pub emergency_body_digits : List ℕ
emergency_body_digits =
    codes "04020203011111111111111111111111111111111111111111111111111111111111111111"
    ++ codes "04032222222222222222222222222222222222222222222222222222222222222222"
    ++ codes "ffffffff000000000200ff"
