mod KeyBytes
mod Ends
mod Saying
mod Determined
