mod OutsideInclusions
mod SameData
mod ArgumentsViewed
mod Values
mod Restored
