-- The instances of a program in start order, the ground sets of their atoms and of the program's own, and the ground of a set: by these the
-- authority of a body is said (docs/LANGUAGE.md, "Start order and ground sets").
pub use Rattle.wy_types.specs.Ground.{start_list, program_sets, ground_of}
