-- An order with its signature, as an independent program made them; the checker verifies it. Is an order that the owner
-- signed obeyed, and is it refused if one bit of its signature is flipped?
use Rattle.mb_model.specs.owners.Layers.{equal_trusts}
use Rattle.std.specs.Prelude.{ℕ, List, [], ◌∷◌, ◌++◌, codes, None, Some}
use Rattle.mb_model.specs.declared.key.PublicKey.{PublicKey}
use Rattle.mb_model.specs.declared.key.Tree.TheVariants.{H5}
use Rattle.mb_model.specs.declared.key.Chains.TheVariants.{W4}
use Rattle.mb_model.specs.declared.key.Trust.TheVariants.{Always, Countersigned}
use Rattle.mb_model.specs.declared.layer.Layers.{Layers}
use Rattle.mb_model.specs.declared.order.Order.{Order}
use Rattle.mb_model.specs.declared.order.Act.TheVariants as act
use Rattle.mb_model.specs.declared.entry.Entry.TheVariants.{Birth}
use Rattle.mb_model.specs.declared.reply.Reply.TheVariants as reply
use Rattle.mb_model.specs.declared.state.State.{State}
use Rattle.mb_model.specs.owners.Regions.{empty_region}
use Rattle.mb_model.specs.machine.SignedTexts.{order_text}
use Rattle.mb_model.specs.records.OrderFormat.{order_body}
use Rattle.mb_model.specs.signatures.Merkle.{Verifies}
use Rattle.mb_model.specs.machine.OrderEffects.{state_after_order}
use Rattle.mb_model.specs.machine.OrderStep.{OrderStep}
use Rattle.mb_model_examples.specs.RuleExamples.{officer, running, at_birth}
use Rattle.mb_model_examples.specs.Device.{signed_with, seed_of}
use Rattle.mb_model_examples.specs.RecordValues.{bytes_of}

-- a key by its identifier and its root, in digits
abbrev signed_key : List ℕ → List ℕ → PublicKey
signed_key identifier root =
    record { tree = H5; chains = W4; identifier = bytes_of identifier; root = bytes_of root }

abbrev pub owner_one : PublicKey
owner_one =
    signed_key (codes "028c20423da199b2086baca3700a4bef")
    (codes "21c2a633d102f5f5b69c16ef675e8c310801820d9c31df7bcec85287cedeb807")

abbrev pub owner_two : PublicKey
owner_two =
    signed_key (codes "5c6d009ae4672bd031a5dc7525cbaba8")
    (codes "2e56d8e64c6a43bb1c541dc444c381d61f0ad5bca66db1d753e7a3bbdf84873c")

-- the index and a type, the randomizer, the 67 chain values, a type, and the nodes of the path, without the last byte
abbrev pub unended_signature : List ℕ
unended_signature =
    bytes_of (codes "0000000000000003"
    ++ codes "bc0271fbb6c3417580f5a5b1030b1ccb9fe6d1edfa52050d6e07e78a00f6e070"
    ++ codes "cde055f89ca1bf1dfa61f4a31895e50af875d03fb224657da79fd7eb110ac95ec3531531f04235655c21742426cecfc8"
    ++ codes "11a23d9c5531d4f232aeca57ca2077a910e5bfffd530d83e73b6f5276ba9adc04579e87aa9828d18438c68143e1450bb"
    ++ codes "1f6da200af5ca93eb27630201903ef9b5d7bd94164875038b9e72c3e61826195f006310c08f0768a352af9a1d1d64cf8"
    ++ codes "8dfb2684e359e4f4e200432ea51fe7da7e293bbf9ff8847decef55095635046b066bd63e723f1818b15959dcd7047a03"
    ++ codes "d5b2311a3c301bb27ed48f2f06f3712cecd5c2ff517dc53f48613c044ed0d2d8828130c6cd89ddeb2ed875a52250965a"
    ++ codes "5a743e917e583eeca7602e8303dcad1e7178cb80f7efa91fdfbe660e5f07f0e63d9a15ed8327afa6f2564c8621eba3b0"
    ++ codes "7f927904c13ef977086017f39c5a2d0dd5de566eb2361f0bb27225b36d92f321559b510423a534d252611865b38a59d5"
    ++ codes "a0e96de540bd7a862ad3abdc2de54fcfd56b5c89a84ffb28cf8cd2dfe21a0f60d1b25e9e5f2de17b147a34dbd615decb"
    ++ codes "73ae1ff86de1ed9bb13bf5f4fca867fcb67fb0ce8318e724ea9e9860ba1544a39854c019e0d52475daeb9b036cc254f2"
    ++ codes "fb1f9ce0993fdfb2ea26689eb2590d834c447f45d5d36716b23923947f8c0e3782d6cbe4d4e0b307cddc7bbb0d1e3ce0"
    ++ codes "59598326652ae722fd54769f4dc7c7bfd68e20b0bc14b31fa0e91a94fcc740d500dbb23c6b56ff57c5710338c0d84eab"
    ++ codes "fd25c69cd38ca6805721530cda3b4541a360e6e5e1bd2ed8333b59194a71714486a3b9e0a2b3d80eb20172f7ef1747d1"
    ++ codes "09a256fe06b8913934d01e00449c2cff5840e533209ba5f7e36a24a560a550a51c97ea997ad657d2a98e104cb8d1a7d2"
    ++ codes "bbccf23a04b5913324cdfb3f5d7ae6dd1073202383308414b4202722ef8721cd5ec8b01d831cf29edcdde58e53f47da4"
    ++ codes "d2462bd91f0a21c5a925abbca6f25e6e57c18e4251de4fd5a198f8542c35e00861a49c443f4f97de93107b9f8f7cfb4f"
    ++ codes "77c67ea904dcc1644ee41bead4a76247257ad584d0c3e00f7b3e5d70c717e62c7d1ff8f9c8e499e44057cd11547b0afa"
    ++ codes "3c5c19d14fd3d549ccab70a35b63f23951edc67695d435ceef584aaa7612c77865a869789da5a96cc796a03eb280a6a5"
    ++ codes "7cc60aba5509c1c846446682ce1f097ecca49be80515dd827f78c80a13455926515962b5d6cfdf2c3f7930ebab9375ad"
    ++ codes "0851cf6fef539bf032d095c867740d085fb2ae73093db56b25829cd5f51277116a146f2bc911cd0a9597889cf9ccfdc2"
    ++ codes "08b618be928baeb777abdae98e791dbc8e8f7a40527a8d53b39676e8e94b92d584053367907d4e3a33b8021db855537f"
    ++ codes "1403812742e236e43755414ee20ebef5ffa23ac8ab45b0644d711f7ea63a5ddc8f46a76070e0e1fffa4a4fe774724056"
    ++ codes "5d5075ba864179198fd36ab7abb1add6ae1fec0e6fa80764cfd7fac669e6d9c8c83303f78d75019f276011c2c74fed07"
    ++ codes "6b805713c6533602808dd2ccc748bc77064daa047744deae0dd16988ebf6cf8e50ba756d760fe2708ce1f309b4650f17"
    ++ codes "2d3a28453344c7cb0392a9ade78f93eb4405377c4033e51417ef557995c63cd95150eeda784c57ae0b14ef3330caeb65"
    ++ codes "ab64d9034d326f26e9029b86326e37a51d4931df6b50effd2437d115acadc82424d0e9fd9b735f5bb8e88236752df4b1"
    ++ codes "e86868d792d3d774a71412db639e880bdc6f1fb49bf6960fcfc2736e25d17cc1954d5a49c5d7586fe3d6eb9553001ac5"
    ++ codes "15f6e20b0b6a8db16cc14013e4bba17609769f0dcfcea0adad8983dfb7efb0ac2b599b5b25e025710b76353d9c416a1d"
    ++ codes "cbaa2acdca47ab2af0d97b4165fbe6f243810ca27254d57e4dab0394588ccb6573097f0917c47770f99c6c95c8a26dae"
    ++ codes "39908deecead7d77e9f4ddc6924b763f6b32550e9aab7e2da52c63cfb3a318823200aa8a2ac85aea1711343a391e8301"
    ++ codes "aec9112298c51f38efe086130720265f4fc6fb5ab431ede2c96e8f0a65fc8d0fbe063b15e8ecfb18acd1c1950d161b16"
    ++ codes "b7c7c5a2489eb38721f20bf1e730be01382dd2c0ccc463b2327effa63fdd5993b64e51accd69b1e2a838a359439f8b07"
    ++ codes "16176969f2cf8430b544e0e158d071f57f5a33fd6fc5f758847a0a9cae5f9f9f6e5ad851b60454cd41e3940c7fe0a0a0"
    ++ codes "dbf5175eb27aa67bd3b338cc32d3de7db71de4f7d2d383905f10d546ffc38190b978a57baba5a4c5c6dca56eb98bbc46"
    ++ codes "fe994d06acb34803f213a5605b1978423e6e82dff259d3f7ca16912a1e61c65139a14567e91c1e74def66e8778cc7f5e"
    ++ codes "7af0c4700d317dacf5e4d77847709b6cc3edf79c727c3d7b57df400154b35144dc259d39b42c6a527aba7ae789ce606d"
    ++ codes "aa106a9cb16966dd0a75e47e18d96def8b0fb2c8ee4be51ca8e81e142b7c1b3cef7f8450e07f3f629faeeb065c67dd4e"
    ++ codes "b9baae3f35d6868a7a89c938873c10b816bb7733251bfcf8ace33466d347cd16a3eafce7d25b62ac0dec1e349ee626af"
    ++ codes "215f62b950a3e0aba47053d91f97def0ae757f20ace0b1dccb652a8480ee712d166071cd48af9b1d2241bac654019b26"
    ++ codes "6696b465e1ce276c1ba786a1ac4716f14c705bada6c8fb432413d891814abd02e29ae599ecfd8921e805e6100f1891cc"
    ++ codes "053ae115cce34907a6837b8fc6e09d5a1d3b2c6520a36a2d365f0084baf93dbd88d80fd157521787faf254383432102a"
    ++ codes "cc50ef34254aafdf578d64d0e8d02b536ed1fda75ff9488bd0b4025b21ee2457e220c9c9ea825ce910707296cba7bb5e"
    ++ codes "7b6561338b817daa589016441f21b43517c55508c454728f348715935dd7dc131ee92b5b4077f9fa85c499646bb220dc"
    ++ codes "77b80365cb0ea96bca1b58f384dc81e1b9a5a454e6bb7d1381016265e3d6c6a1c8c3e396c6a8f5323ac4c717eecabc00"
    ++ codes "095777641c70ff6b846d5d00b389d18e14bb98442b6d1e2f0cf1e01e0a08fb65a3158f39c27dbf5c409ad6dfd5bf11db"
    ++ codes "f3637f117e864190eeb06b00a5623401b6d814ac07d4747d17eacd3fa0d6c04b"
    ++ codes "00000005"
    ++ codes "facfb7e36d3528aa5a7570c7e3b40632225b7b30aafd947488ab33336e54ef52"
    ++ codes "77ec08995082258684120d60f2e7b0c549c0f24dc7de8284e0460a8bd29593f1"
    ++ codes "ee49398ab1107fb28a0b3fe5e9e6568c53b5cc414b20433b456d15d2fa4ae0d8"
    ++ codes "7a1e3256aaf2f3ade524b0c71d81ce7e7bd7dcf747e16d3ea1be99060bb42f1d"
    ++ codes "862ee05a606debaa6f19daf5e7099b7f9dd80d6ef41466246bb16628f4a71b")

abbrev pub good_signature : List ℕ
good_signature = unended_signature ++ 0x61 ∷ []

-- the signature with one bit flipped
abbrev pub flipped_signature : List ℕ
flipped_signature = unended_signature ++ 0x60 ∷ []

-- establish an owner of layer 2, with this signature
abbrev pub establish_order : List ℕ → Order
establish_order signature =
    record {
      layer = 2;
      targets = [];
      act = act.Establish owner_two (equal_trusts Countersigned);
      signature = signature;
      countersignatures = [];
    }

-- the bytes of `establish_order`: a body of 60 bytes, the length 2,348 of the signature, no countersignature
abbrev pub order_bytes : List ℕ → List ℕ
order_bytes signature =
    bytes_of (codes "0102000000000500000003"
    ++ codes "5c6d009ae4672bd031a5dc7525cbaba8"
    ++ codes "2e56d8e64c6a43bb1c541dc444c381d61f0ad5bca66db1d753e7a3bbdf84873c02")
    ++ 0x09 ∷ 0x2C ∷ signature ++ 0 ∷ []

-- the serial of a device whose layer 1 is owned by `owner_one`
abbrev pub serial : List ℕ
serial = bytes_of (codes "12d71d7255b6325df7487678010fc9db")

-- the layers of a new device whose layer 1 is owned by `owner_one`
abbrev pub first_layers : Layers
first_layers = record at_birth { one = record (running 1 Always) { owner = Some owner_one } }

-- the device after its birth
abbrev pub newborn : List ℕ → State
newborn signature = record {
  serial = serial;
  layers = first_layers;
  codes = record { one = None; two = None; three = None };
  log = signed_with signature (Birth 2 serial (officer 10) first_layers ∷ []);
  device = seed_of 10;
  uses = 0;
  two = empty_region;
  three = empty_region;
}

pub record VerifiedOrders (signature draw : List ℕ) : Type 0 where
  pub good : Verifies owner_one (order_text (order_body (establish_order good_signature))) good_signature
  pub flipped : Verifies owner_one (order_text (order_body (establish_order good_signature))) flipped_signature → ⊥
  pub obeyed_order : OrderStep (newborn signature) (order_bytes good_signature) draw (reply.Done 1 2)
      (state_after_order (newborn signature) (establish_order good_signature) draw)
  pub refused_order : OrderStep (newborn signature) (order_bytes flipped_signature) draw (reply.Refused 13)
      (newborn signature)
