-- What the code keeps of the words that it has read.
use Rattle.std.specs.Option.{option_map}
use Rattle.program_words.specs.Given.{Given}
use Rattle.program_words.specs.declared.podctl_options.Given as kept

-- the same with the texts of the words
abbrev pub given_of : kept.Given → Given
given_of given = record {
  base = option_map (λ word. word.now) given.base;
  owner = option_map (λ word. word.now) given.owner;
  fresh = option_map (λ word. word.now) given.fresh;
  agent = option_map (λ word. word.now) given.agent;
  as_owner = given.as_owner;
  trail = given.trail;
  operand = option_map (λ word. word.now) given.operand;
  mode = given.mode;
}
