mod Parts
mod Rows
mod Places
mod Calls
