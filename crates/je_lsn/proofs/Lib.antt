-- A file's name is read back as its number.
mod FileNames
