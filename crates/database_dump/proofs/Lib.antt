-- One record of a walk more.
mod WalkLaws
