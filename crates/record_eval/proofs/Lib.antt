-- Records by their name, and the ends of lists.
pub mod Taken
