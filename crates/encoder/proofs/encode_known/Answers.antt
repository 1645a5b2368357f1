use Rattle.std.proofs.Common.{rules, refl}
use Rattle.codes.specs.declared.Code.TheVariants.{TC128, TC256, TC512, TM1280, TM1536, TM2048, TM5120, TM6144, TM8192}
use Rattle.tables.specs.Words.{generators}
use Rattle.encoder.proofs.Known.{known_parts, known_frame}
use Rattle.encoder.proofs.encode_known.Goals as goal

pub encode_parity-requires : goal.encode_parity-requires
unfolding generators
encode_parity-requires c = (search rules, (refl, known_parts _ TC128 _ _ _ c.in-TC128.is c.params-row.ensures c.requires refl))

pub encode_parity-requires-in-TC256 : goal.encode_parity-requires-in-TC256
unfolding generators
encode_parity-requires-in-TC256 c = (search rules, (refl, known_parts _ TC256 _ _ _ c.in-TC256.is c.params-row.ensures c.requires refl))

pub encode_parity-requires-in-TC512 : goal.encode_parity-requires-in-TC512
unfolding generators
encode_parity-requires-in-TC512 c = (search rules, (refl, known_parts _ TC512 _ _ _ c.in-TC512.is c.params-row.ensures c.requires refl))

pub encode_parity-requires-in-TM1280 : goal.encode_parity-requires-in-TM1280
unfolding generators
encode_parity-requires-in-TM1280 c = (search rules, (refl, known_parts _ TM1280 _ _ _ c.in-TM1280.is c.params-row.ensures c.requires refl))

pub encode_parity-requires-in-TM1536 : goal.encode_parity-requires-in-TM1536
unfolding generators
encode_parity-requires-in-TM1536 c = (search rules, (refl, known_parts _ TM1536 _ _ _ c.in-TM1536.is c.params-row.ensures c.requires refl))

pub encode_parity-requires-in-TM2048 : goal.encode_parity-requires-in-TM2048
unfolding generators
encode_parity-requires-in-TM2048 c = (search rules, (refl, known_parts _ TM2048 _ _ _ c.in-TM2048.is c.params-row.ensures c.requires refl))

pub encode_parity-requires-in-TM5120 : goal.encode_parity-requires-in-TM5120
unfolding generators
encode_parity-requires-in-TM5120 c = (search rules, (refl, known_parts _ TM5120 _ _ _ c.in-TM5120.is c.params-row.ensures c.requires refl))

pub encode_parity-requires-in-TM6144 : goal.encode_parity-requires-in-TM6144
unfolding generators
encode_parity-requires-in-TM6144 c = (search rules, (refl, known_parts _ TM6144 _ _ _ c.in-TM6144.is c.params-row.ensures c.requires refl))

pub encode_parity-requires-in-TM8192 : goal.encode_parity-requires-in-TM8192
unfolding generators
encode_parity-requires-in-TM8192 c = (search rules, (refl, known_parts _ TM8192 _ _ _ c.in-TM8192.is c.params-row.ensures c.requires refl))

pub returns-in-TC128 : goal.returns-in-TC128
unfolding generators
returns-in-TC128 c = known_frame _ TC128 _ _ _ c.in-TC128.is c.params-row.ensures c.requires c.encode_parity.ensures refl

pub returns-in-TC256 : goal.returns-in-TC256
unfolding generators
returns-in-TC256 c = known_frame _ TC256 _ _ _ c.in-TC256.is c.params-row.ensures c.requires c.encode_parity-in-TC256.ensures refl

pub returns-in-TC512 : goal.returns-in-TC512
unfolding generators
returns-in-TC512 c = known_frame _ TC512 _ _ _ c.in-TC512.is c.params-row.ensures c.requires c.encode_parity-in-TC512.ensures refl

pub returns-in-TM1280 : goal.returns-in-TM1280
unfolding generators
returns-in-TM1280 c = known_frame _ TM1280 _ _ _ c.in-TM1280.is c.params-row.ensures c.requires c.encode_parity-in-TM1280.ensures refl

pub returns-in-TM1536 : goal.returns-in-TM1536
unfolding generators
returns-in-TM1536 c = known_frame _ TM1536 _ _ _ c.in-TM1536.is c.params-row.ensures c.requires c.encode_parity-in-TM1536.ensures refl

pub returns-in-TM2048 : goal.returns-in-TM2048
unfolding generators
returns-in-TM2048 c = known_frame _ TM2048 _ _ _ c.in-TM2048.is c.params-row.ensures c.requires c.encode_parity-in-TM2048.ensures refl

pub returns-in-TM5120 : goal.returns-in-TM5120
unfolding generators
returns-in-TM5120 c = known_frame _ TM5120 _ _ _ c.in-TM5120.is c.params-row.ensures c.requires c.encode_parity-in-TM5120.ensures refl

pub returns-in-TM6144 : goal.returns-in-TM6144
unfolding generators
returns-in-TM6144 c = known_frame _ TM6144 _ _ _ c.in-TM6144.is c.params-row.ensures c.requires c.encode_parity-in-TM6144.ensures refl

pub returns-in-TM8192 : goal.returns-in-TM8192
unfolding generators
returns-in-TM8192 c = known_frame _ TM8192 _ _ _ c.in-TM8192.is c.params-row.ensures c.requires c.encode_parity-in-TM8192.ensures refl
