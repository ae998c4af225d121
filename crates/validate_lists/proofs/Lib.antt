mod Floats
mod EarlierNames
mod CountedNames
