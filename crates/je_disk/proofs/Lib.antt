-- What the calls do to the files as they read.
pub mod CallEffects
-- What the files read as stays one of the images.
pub mod ImageLaws
-- How the moments of several calls join.
pub mod MomentLaws
