use Rattle.std.proofs.Common.{refl}
use Rattle.podctl_commands.proofs.frame_input.Following.take_frame.Goals as goal

-- a frame of which nothing can be made
pub returns-in_default-found-clause-stopped : goal.returns-in_default-found-clause-stopped
returns-in_default-found-clause-stopped g c = (c.in-Ok.ensures.none c.in_default-found.is, refl)
