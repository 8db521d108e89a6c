-- The user data by which a ring knows the operations of a request.
use Rattle.std.specs.Prelude.{ℕ, ◌+◌, ◌*◌, ◌/◌, ◌%◌}
use Rattle.exec_base.specs.declared.slab.Id.{Id}

-- the low half of the generation, and the index below it
abbrev pub user_data_of : Id → ℕ
user_data_of id = (id.generation % 4294967296) * 4294967296 + id.index

-- the slot that user data names, and the low half of the generation
abbrev pub index_in : ℕ → ℕ
index_in user_data = user_data % 4294967296

abbrev pub generation_in : ℕ → ℕ
generation_in user_data = user_data / 4294967296
